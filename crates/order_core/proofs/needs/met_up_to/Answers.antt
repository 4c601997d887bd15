use Rattle.std.proofs.Common.{ℕ, ◌<◌, List, Option, IsTrue, rules, subst, sym, arith, lt_of_not-le}
use mathlib.Core.Logic.{dite}
use native.Mathlib.Decide.{dec_le}
use Rattle.order_core.specs.declared.course.Course.{Course}
use Rattle.order_core.specs.Course.{course}
use Rattle.order_core.specs.inner.Needs.{AreSeen}
use Rattle.order_core.proofs.Known.{Known, known}
use Rattle.order_core.proofs.NeedLemmas.{met_more, met_less}
use Rattle.order_core.proofs.needs.met_up_to.Goals as goal

pub returns-then-not-are_seen-clause-most : goal.returns-then-not-are_seen-clause-most
returns-then-not-are_seen-clause-most g c m up met =
    let plan = c.args.plan.now in
    let k : Course = course g.P.Plan.planned plan in
    let is : Known k = known k (g.met.P.Plan.lawful plan) in
    dite (dec_le m c.loop-number.number) (λ le. le)
    (λ n. let l : c.loop-number.number < m = lt_of_not-le n in
    let all : AreSeen c.needs.result c.args.seen.now = subst (λ (z : List (Option ℕ)). AreSeen z c.args.seen.now) (sym c.needs.ensures) (met_less k is c.args.seen.now c.args.hart c.loop-number.number m (omega arith) met) in
    absurd (let t : IsTrue c.are_seen.result = c.are_seen.ensures.1 all in let f = c.if-not-are_seen.true in search rules))

pub loop-number-preserved : goal.loop-number-preserved
loop-number-preserved g c =
    let plan = c.args.plan.now in
    let k : Course = course g.P.Plan.planned plan in
    let is : Known k = known k (g.met.P.Plan.lawful plan) in
    let t : IsTrue c.are_seen.result = (let f = c.if-not-are_seen.false in search rules) in
    met_more k is c.args.seen.now c.args.hart c.loop-number.number (subst (λ (z : List (Option ℕ)). AreSeen z c.args.seen.now) c.needs.ensures (c.are_seen.ensures.0 t)) c.loop-number.invariant

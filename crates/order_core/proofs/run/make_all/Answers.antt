use Rattle.std.proofs.Common.{rules, ◌≡◌, ℕ, suc, ◌+◌, ◌<◌, ◌≤◌, ◌^◌, List, length, take, get_or, Some, slice_get, subst, arith}
use Rattle.std.proofs.lemmas.List.{take_all}
use Rattle.order_core.specs.declared.course.Course.{Course}
use Rattle.order_core.specs.Course.{course}
use Rattle.order_core.specs.States.{core_of}
use Rattle.std.proofs.lemmas.List.{length-take-le}
use Rattle.order_core.specs.declared.steps.Act.TheVariants.{See}
use Rattle.order_core.specs.declared.steps.CoreStep.{CoreStep}
use Rattle.order_core.specs.Core.{opening_core}
use Rattle.order_core.specs.Runs.{IsReached}
use Rattle.order_core.specs.Outcomes.{IsFirstRefused}
use Rattle.order_core.proofs.RunLemmas.{get_there, run_next, few_writes}
use Rattle.order_core.proofs.run.make_all.Goals as goal

pub make-requires-clause-few : goal.make-requires-clause-few
make-requires-clause-few g c =
    let k : Course = course g.P.Plan.planned c.args.plan.now in
    let s : CoreStep = get_or c.args.steps.now c.loop-at.at (record { hart = 0; act = See 0 }) in
    let few : (core_of c.loop-at.state).written s.hart ≤ (opening_core k).written s.hart + length (take c.loop-at.at c.args.steps.now) = few_writes k s.hart (opening_core k) (take c.loop-at.at c.args.steps.now) (core_of c.loop-at.state) c.loop-at.invariant.1 in
    let at : length (take c.loop-at.at c.args.steps.now) ≡ c.loop-at.at = length-take-le c.loop-at.at c.args.steps.now (omega arith) in
    let all : length c.args.steps.now < 2 ^ 32 = c.requires.few in
    omega arith

pub returns-then-not-make-clause-refused : goal.returns-then-not-make-clause-refused
returns-then-not-make-clause-refused g c =
    let k : Course = course g.P.Plan.planned c.args.plan.now in
    let s : CoreStep = get_or c.args.steps.now c.loop-at.at (record { hart = 0; act = See 0 }) in
    let there : slice_get c.args.steps.now c.loop-at.at ≡ Some s = get_there c.args.steps.now c.loop-at.at (record { hart = 0; act = See 0 }) (omega arith) in
    let f = c.if-not-make.true in
    let first : IsFirstRefused k c.args.steps.now c.loop-at.at = record { step = s; there = there; before = core_of c.loop-at.state; reached = c.loop-at.invariant.1; refused = c.make.ensures.refused (search rules) } in
    first

pub loop-at-preserved : goal.loop-at-preserved
loop-at-preserved g c =
    let k : Course = course g.P.Plan.planned c.args.plan.now in
    let s : CoreStep = get_or c.args.steps.now c.loop-at.at (record { hart = 0; act = See 0 }) in
    let there : slice_get c.args.steps.now c.loop-at.at ≡ Some s = get_there c.args.steps.now c.loop-at.at (record { hart = 0; act = See 0 }) (omega arith) in
    let f = c.if-not-make.false in
    let next : IsReached k (take (suc c.loop-at.at) c.args.steps.now) (core_of c.make.new.state) = run_next k (opening_core k) c.args.steps.now c.loop-at.at s (core_of c.loop-at.state) (core_of c.make.new.state) there c.loop-at.invariant.1 (c.make.ensures.made (search rules)) in
    let one : suc c.loop-at.at ≡ c.loop-at.at + 1 = omega arith in
    (c.make.ensures.fits (search rules), subst (λ (z : ℕ). IsReached k (take z c.args.steps.now) (core_of c.make.new.state)) one next)

pub returns-clause-made : goal.returns-clause-made
returns-clause-made g c =
    let k : Course = course g.P.Plan.planned c.args.plan.now in
    subst (λ (z : List CoreStep). IsReached k z (core_of c.loop-at.state)) (take_all c.loop-at.at c.args.steps.now c.loop-at-test.false) c.loop-at.invariant.1

use Rattle.std.proofs.Common.{◌≡◌, ◌<◌, ◌≤◌, true, false, leb-true, le-leb, refl, arith}
use Rattle.order_core.specs.declared.course.Course.{Course}
use Rattle.order_core.specs.Course.{course}
use Rattle.order_core.proofs.Known.{Known, known}
use Rattle.order_core.specs.declared.state.HartState.{HartState}
use Rattle.order_core.specs.States.{hart_in}
use Rattle.order_core.proofs.HartLemmas.{passed_up, passed_below, met_kept}
use Rattle.order_core.proofs.MoveLemmas.{kept, kept_fits}
use Rattle.order_core.proofs.moves.has_passed.Goals as goal

pub returns-then-own-upto-clause-passed : goal.returns-then-own-upto-clause-passed
returns-then-own-upto-clause-passed g c =
    let plan = c.args.plan.now in
    let k : Course = course g.P.Plan.planned plan in
    let is : Known k = known k (g.met.P.Plan.lawful plan) in
    let own : HartState = hart_in c.args.state.now.harts c.args.hart in (
      (λ t. absurd (let f : false ≡ true = t in cc)),
      (λ passed. let below : c.args.upto < own.next.number = passed_below (g.P.Plan.planned plan) is c.args.hart own (kept (g.P.Plan.planned plan) is c.args.state.now c.requires.fits c.args.hart c.requires.hart) c.args.upto passed in absurd (omega arith)),
    )

pub returns-clause-fits : goal.returns-clause-fits
returns-clause-fits g c =
    let plan = c.args.plan.now in
    let k : Course = course g.P.Plan.planned plan in
    let is : Known k = known k (g.met.P.Plan.lawful plan) in
    let own : HartState = hart_in c.args.state.now.harts c.args.hart in
    kept_fits (g.P.Plan.planned plan) is c.args.state.now c.requires.fits c.args.hart c.requires.hart (record own { met = c.met_up_to-met.result })
    (met_kept (g.P.Plan.planned plan) is c.args.hart own (kept (g.P.Plan.planned plan) is c.args.state.now c.requires.fits c.args.hart c.requires.hart) c.met_up_to-met.result own.progress c.met_up_to-met.ensures.met c.met_up_to-met.ensures.low) (omega arith) refl

pub returns-clause-passed : goal.returns-clause-passed
returns-clause-passed g c =
    let plan = c.args.plan.now in
    let k : Course = course g.P.Plan.planned plan in
    let is : Known k = known k (g.met.P.Plan.lawful plan) in
    let own : HartState = hart_in c.args.state.now.harts c.args.hart in
    let below : c.args.upto < own.next.number = omega arith in (
      (λ t. passed_up (g.P.Plan.planned plan) is c.args.hart own (kept (g.P.Plan.planned plan) is c.args.state.now c.requires.fits c.args.hart c.requires.hart) c.args.upto c.met_up_to-met.result below (leb-true c.args.upto c.met_up_to-met.result t) c.met_up_to-met.ensures.met),
      (λ passed. let most : c.args.upto ≤ c.met_up_to-met.result = c.met_up_to-met.ensures.most c.args.upto (omega arith) passed.1 in le-leb c.args.upto c.met_up_to-met.result most),
    )

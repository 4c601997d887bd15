use Rattle.std.proofs.Common.{rules, ◌<◌, ◌≤◌, IsTrue, slice_index, refl, inl, inr, ⊎_elim, arith}
use Rattle.order_core.specs.declared.course.Course.{Course}
use Rattle.order_core.specs.declared.state.HartState.{HartState}
use Rattle.order_core.specs.Course.{course}
use Rattle.order_core.specs.Core.{IsMet}
use Rattle.order_core.specs.States.{hart_in}
use Rattle.order_core.proofs.Known.{Known, known}
use Rattle.order_core.proofs.HartLemmas.{met_kept}
use Rattle.order_core.proofs.MoveLemmas.{kept, kept_fits, lanes_low, not_above, not_met, not_clear, read}
use Rattle.order_core.proofs.moves.read.Goals.{then-met-at-via-then-met-at, then-met-at-via-else-met-at+then-is_overtaken}
use Rattle.order_core.proofs.moves.read.Goals as goal

pub returns-then-at-own-clause-refused : goal.returns-then-at-own-clause-refused
returns-then-at-own-clause-refused g c _ =
    let plan = c.args.plan.now in
    let k : Course = course g.P.Plan.planned plan in
    let is : Known k = known k (g.met.P.Plan.lawful plan) in
    not_above (g.P.Plan.planned plan) is c.args.state.now c.requires.fits c.args.hart c.requires.hart c.args.at.number c.args.at.op c.args.op c.requires.op.from_one c.requires.op.number c.requires.op.op c.requires.is_read (omega arith)

pub is_overtaken-requires-clause-lanes : goal.is_overtaken-requires-clause-lanes
is_overtaken-requires-clause-lanes g c =
    let plan = c.args.plan.now in
    let k : Course = course g.P.Plan.planned plan in
    let is : Known k = known k (g.met.P.Plan.lawful plan) in
    lanes_low (g.P.Plan.planned plan) is c.args.state.now c.requires.fits c.args.hart c.requires.hart c.args.at.number c.args.at.op c.args.op c.requires.op.from_one c.requires.op.number c.requires.op.op

pub returns-then-met-at-clause-refused : goal.returns-then-met-at-clause-refused
returns-then-met-at-clause-refused g c _ =
    let plan = c.args.plan.now in
    let k : Course = course g.P.Plan.planned plan in
    let is : Known k = known k (g.met.P.Plan.lawful plan) in
    let own : HartState = hart_in c.args.state.now.harts c.args.hart in
    elim c.then-met-at.branch [
      | then-met-at-via-then-met-at w ↦
          let missing : IsMet k (slice_index own.seen) c.args.hart c.args.at.number → ⊥ = (λ met. let most : c.args.at.number ≤ c.met_up_to-met.result = c.met_up_to-met.ensures.most c.args.at.number (omega arith) met in omega arith) in
          not_met (g.P.Plan.planned plan) is c.args.state.now c.requires.fits c.args.hart c.requires.hart c.args.at.number c.args.at.op missing
      | then-met-at-via-else-met-at+then-is_overtaken w ↦
          let t : IsTrue w.is_overtaken.result = (let f = w.if-is_overtaken.true in search rules) in
          not_clear (g.P.Plan.planned plan) is c.args.state.now c.requires.fits c.args.hart c.requires.hart c.args.at.number c.args.at.op c.args.op c.requires.op.from_one c.requires.op.number c.requires.op.op c.requires.is_read (λ clear. ⊎_elim clear.0 clear.1 (w.is_overtaken.ensures.0 t))
    ]

pub returns-clause-fits : goal.returns-clause-fits
returns-clause-fits g c _ =
    let plan = c.args.plan.now in
    let k : Course = course g.P.Plan.planned plan in
    let is : Known k = known k (g.met.P.Plan.lawful plan) in
    let own : HartState = hart_in c.args.state.now.harts c.args.hart in
    kept_fits (g.P.Plan.planned plan) is c.args.state.now c.requires.fits c.args.hart c.requires.hart (record own { met = c.met_up_to-met.result })
    (met_kept (g.P.Plan.planned plan) is c.args.hart own (kept (g.P.Plan.planned plan) is c.args.state.now c.requires.fits c.args.hart c.requires.hart) c.met_up_to-met.result own.progress c.met_up_to-met.ensures.met c.met_up_to-met.ensures.low) (omega arith) refl

pub returns-clause-made : goal.returns-clause-made
returns-clause-made g c _ =
    let plan = c.args.plan.now in
    let k : Course = course g.P.Plan.planned plan in
    let is : Known k = known k (g.met.P.Plan.lawful plan) in
    let own : HartState = hart_in c.args.state.now.harts c.args.hart in
    let up : own.progress < c.args.at.number = omega arith in
    let le : c.args.at.number ≤ c.met_up_to-met.result = omega arith in
    let not : IsTrue c.is_overtaken.result → ⊥ = (λ t. let f = c.if-is_overtaken.false in search rules) in
    read (g.P.Plan.planned plan) is c.args.state.now c.requires.fits c.args.hart c.requires.hart c.args.at.number c.args.at.op c.args.op c.requires.op.from_one c.requires.op.number c.requires.op.op c.requires.is_read c.met_up_to-met.result c.met_up_to-met.ensures.met le up
    ((λ t. not (c.is_overtaken.ensures.1 (inl t))), (λ t. not (c.is_overtaken.ensures.1 (inr t))))

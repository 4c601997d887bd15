use Rattle.std.proofs.Common.{◌≡◌, ◌<◌, ◌≤◌, refl, arith}
use Rattle.order_core.specs.declared.course.Course.{Course}
use Rattle.order_core.specs.Course.{course}
use Rattle.order_core.proofs.Known.{Known, known}
use Rattle.order_core.specs.declared.state.HartState.{HartState}
use Rattle.order_core.specs.States.{hart_in}
use Rattle.order_core.proofs.HartLemmas.{passed_up, passed_below, met_kept}
use Rattle.order_core.proofs.MoveLemmas.{kept, kept_fits, advertise_made}
use Rattle.order_core.proofs.moves.advertise.Goals.{then-upto-own-via-then-upto-own, then-upto-own-via-else-upto-own+then-own-upto}
use Rattle.order_core.proofs.moves.advertise.Goals as goal

pub bounds-state-hart : goal.bounds-state-hart
bounds-state-hart g c =
    let plan = c.args.plan.now in
    let k : Course = course g.P.Plan.planned plan in
    let is : Known k = known k (g.met.P.Plan.lawful plan) in
    let harts : c.harts.result ≡ k.log.harts = c.harts.ensures in
    let low : c.args.hart < k.log.harts = omega arith in
    let eight : k.log.harts ≤ 8 = is.harts in
    omega arith

pub returns-then-upto-own-clause-refused : goal.returns-then-upto-own-clause-refused
returns-then-upto-own-clause-refused g c _ may =
    let plan = c.args.plan.now in
    let k : Course = course g.P.Plan.planned plan in
    let is : Known k = known k (g.met.P.Plan.lawful plan) in
    let harts : c.harts.result ≡ k.log.harts = c.harts.ensures in
    let low : c.args.hart < k.log.harts = omega arith in
    let own : HartState = hart_in c.args.state.now.harts c.args.hart in
    let below : c.args.upto < own.next.number = passed_below (g.P.Plan.planned plan) is c.args.hart own (kept (g.P.Plan.planned plan) is c.args.state.now c.requires.fits c.args.hart low) c.args.upto may.2 in
    let up : own.progress ≤ c.args.upto = may.1 in
    elim c.then-upto-own.branch [
      | then-upto-own-via-then-upto-own w ↦ omega arith
      | then-upto-own-via-else-upto-own+then-own-upto w ↦ omega arith
    ]

pub met_up_to-met-requires-clause-met : goal.met_up_to-met-requires-clause-met
met_up_to-met-requires-clause-met g c =
    let plan = c.args.plan.now in
    let k : Course = course g.P.Plan.planned plan in
    let is : Known k = known k (g.met.P.Plan.lawful plan) in
    let harts : c.harts.result ≡ k.log.harts = c.harts.ensures in
    let low : c.args.hart < k.log.harts = omega arith in
    (kept (g.P.Plan.planned plan) is c.args.state.now c.requires.fits c.args.hart low).met

pub returns-then-met-upto-clause-refused : goal.returns-then-met-upto-clause-refused
returns-then-met-upto-clause-refused g c _ may =
    let most : c.args.upto ≤ c.met_up_to-met.result = c.met_up_to-met.ensures.most c.args.upto (omega arith) may.2.1 in
    omega arith

pub returns-clause-fits : goal.returns-clause-fits
returns-clause-fits g c _ =
    let plan = c.args.plan.now in
    let k : Course = course g.P.Plan.planned plan in
    let is : Known k = known k (g.met.P.Plan.lawful plan) in
    let harts : c.harts.result ≡ k.log.harts = c.harts.ensures in
    let low : c.args.hart < k.log.harts = omega arith in
    let own : HartState = hart_in c.args.state.now.harts c.args.hart in
    kept_fits (g.P.Plan.planned plan) is c.args.state.now c.requires.fits c.args.hart low (record own { progress = c.args.upto; met = c.met_up_to-met.result })
    (met_kept (g.P.Plan.planned plan) is c.args.hart own (kept (g.P.Plan.planned plan) is c.args.state.now c.requires.fits c.args.hart low) c.met_up_to-met.result c.args.upto c.met_up_to-met.ensures.met c.met_up_to-met.ensures.low) (omega arith) refl

pub returns-clause-made : goal.returns-clause-made
returns-clause-made g c _ =
    let plan = c.args.plan.now in
    let k : Course = course g.P.Plan.planned plan in
    let is : Known k = known k (g.met.P.Plan.lawful plan) in
    let harts : c.harts.result ≡ k.log.harts = c.harts.ensures in
    let low : c.args.hart < k.log.harts = omega arith in
    let own : HartState = hart_in c.args.state.now.harts c.args.hart in
    let up : own.progress ≤ c.args.upto = omega arith in
    let below : c.args.upto < own.next.number = omega arith in
    let le : c.args.upto ≤ c.met_up_to-met.result = omega arith in
    ((low, up, passed_up (g.P.Plan.planned plan) is c.args.hart own (kept (g.P.Plan.planned plan) is c.args.state.now c.requires.fits c.args.hart low) c.args.upto c.met_up_to-met.result below le c.met_up_to-met.ensures.met), advertise_made (g.P.Plan.planned plan) is c.args.state.now c.requires.fits c.args.hart low c.args.upto c.met_up_to-met.result)

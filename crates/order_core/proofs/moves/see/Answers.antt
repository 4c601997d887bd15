use Rattle.std.proofs.Common.{◌≡◌, ◌<◌, ◌≤◌, sym, arith}
use Rattle.order_core.specs.declared.course.Course.{Course}
use Rattle.order_core.specs.Course.{course}
use Rattle.order_core.proofs.Known.{Known, known}
use Rattle.order_core.proofs.MoveLemmas.{see_fits, see_made}
use Rattle.order_core.proofs.moves.see.Goals as goal

pub bounds-state-of : goal.bounds-state-of
bounds-state-of g c =
    let plan = c.args.plan.now in
    let k : Course = course g.P.Plan.planned plan in
    let is : Known k = known k (g.met.P.Plan.lawful plan) in
    let harts : c.harts.result ≡ k.log.harts = c.harts.ensures in
    let low : c.args.hart < k.log.harts = omega arith in
    let others : c.harts-else-harts-hart.result ≡ k.log.harts = c.harts-else-harts-hart.ensures in
    let other : c.args.of < k.log.harts = omega arith in
    let eight : k.log.harts ≤ 8 = is.harts in
    omega arith

pub bounds-state-hart : goal.bounds-state-hart
bounds-state-hart g c =
    let plan = c.args.plan.now in
    let k : Course = course g.P.Plan.planned plan in
    let is : Known k = known k (g.met.P.Plan.lawful plan) in
    let harts : c.harts.result ≡ k.log.harts = c.harts.ensures in
    let low : c.args.hart < k.log.harts = omega arith in
    let others : c.harts-else-harts-hart.result ≡ k.log.harts = c.harts-else-harts-hart.ensures in
    let other : c.args.of < k.log.harts = omega arith in
    let eight : k.log.harts ≤ 8 = is.harts in
    omega arith

pub bounds-own-of : goal.bounds-own-of
bounds-own-of g c =
    let plan = c.args.plan.now in
    let k : Course = course g.P.Plan.planned plan in
    let is : Known k = known k (g.met.P.Plan.lawful plan) in
    let harts : c.harts.result ≡ k.log.harts = c.harts.ensures in
    let low : c.args.hart < k.log.harts = omega arith in
    let others : c.harts-else-harts-hart.result ≡ k.log.harts = c.harts-else-harts-hart.ensures in
    let other : c.args.of < k.log.harts = omega arith in
    let eight : k.log.harts ≤ 8 = is.harts in
    omega arith

pub bounds-state-hart-2 : goal.bounds-state-hart-2
bounds-state-hart-2 g c =
    let plan = c.args.plan.now in
    let k : Course = course g.P.Plan.planned plan in
    let is : Known k = known k (g.met.P.Plan.lawful plan) in
    let harts : c.harts.result ≡ k.log.harts = c.harts.ensures in
    let low : c.args.hart < k.log.harts = omega arith in
    let others : c.harts-else-harts-hart.result ≡ k.log.harts = c.harts-else-harts-hart.ensures in
    let other : c.args.of < k.log.harts = omega arith in
    let eight : k.log.harts ≤ 8 = is.harts in
    omega arith

pub returns-clause-fits : goal.returns-clause-fits
returns-clause-fits g c _ =
    let plan = c.args.plan.now in
    let k : Course = course g.P.Plan.planned plan in
    let is : Known k = known k (g.met.P.Plan.lawful plan) in
    let harts : c.harts.result ≡ k.log.harts = c.harts.ensures in
    let low : c.args.hart < k.log.harts = omega arith in
    let others : c.harts-else-harts-hart.result ≡ k.log.harts = c.harts-else-harts-hart.ensures in
    let other : c.args.of < k.log.harts = omega arith in
    let eight : k.log.harts ≤ 8 = is.harts in
    see_fits (g.P.Plan.planned plan) is c.args.state.now c.requires.fits c.args.hart low c.args.of other

pub returns-clause-made : goal.returns-clause-made
returns-clause-made g c _ =
    let plan = c.args.plan.now in
    let k : Course = course g.P.Plan.planned plan in
    let is : Known k = known k (g.met.P.Plan.lawful plan) in
    let harts : c.harts.result ≡ k.log.harts = c.harts.ensures in
    let low : c.args.hart < k.log.harts = omega arith in
    let others : c.harts-else-harts-hart.result ≡ k.log.harts = c.harts-else-harts-hart.ensures in
    let other : c.args.of < k.log.harts = omega arith in
    let eight : k.log.harts ≤ 8 = is.harts in
    let ne : c.args.of ≡ c.args.hart → ⊥ = (let n = c.if-hart-of.false in λ e. n (sym e)) in
    ((low, other, ne), see_made (g.P.Plan.planned plan) is c.args.state.now c.requires.fits c.args.hart low c.args.of other)

use Rattle.std.proofs.Common.{◌≡◌, ℕ, min, ◌+◌, ◌-◌, ◌≤◌, slice_index, sym, subst, arith}
use Rattle.order_core.specs.declared.course.Course.{Course}
use Rattle.order_core.specs.Course.{course}
use Rattle.order_core.specs.Core.{IsCursor}
use Rattle.order_core.proofs.Known.{Known, known}
use Rattle.order_core.proofs.HartLemmas.{cursor_is}
use Rattle.order_core.proofs.run.cursor_now.Goals as goal

pub returns : goal.returns
returns g c =
    let plan = c.args.plan.now in
    let k : Course = course g.P.Plan.planned plan in
    let is : Known k = known k (g.met.P.Plan.lawful plan) in
    let from : 1 ≤ c.args.own.next.number = c.requires.kept.from_one in
    let low : ℕ = c.args.own.next.number - 1 in
    let e : c.args.own.next.number ≡ low + 1 = omega arith in
    let here : IsCursor k c.args.own.written (slice_index c.args.own.seen) c.args.hart (min low c.met_up_to.result) = cursor_is (g.P.Plan.planned plan) is c.args.hart c.args.own c.requires.kept low c.met_up_to.result e c.met_up_to.ensures.met c.met_up_to.ensures.most in
    subst (IsCursor k c.args.own.written (slice_index c.args.own.seen) c.args.hart) (sym c.min.ensures) here

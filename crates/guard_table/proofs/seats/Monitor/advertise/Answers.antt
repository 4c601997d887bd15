use Rattle.std.proofs.Common.{◌<◌, slice_index, arith, ap, subst, sym}
use Rattle.order_core.specs.declared.course.Course.{Course}
use Rattle.order_core.specs.Course.{course}
use Rattle.order_core.specs.Core.{IsPassed}
use Rattle.order_core.proofs.Known.{known}
use Rattle.guard_table.specs.Seats.{seat_view}
use Rattle.guard_table.proofs.PlayLemmas.{advertises_at, as_many, nine_words}
use Rattle.guard_table.proofs.seats.Monitor.advertise.Goals as goal

pub store-requires : goal.store-requires
store-requires g c =
    let plan = c.args.self.now.plan in
    let law = g.met.P.Plan.lawful plan in
    let many = nine_words (course g.P.Plan.planned plan) law in
    let few = (known (course g.P.Plan.planned plan) law).harts in
    let of = c.requires.of in
    let words = as_many _ _ _ _ of.0 of.1 c.args.seat.now.on_table.0 in
    let inside = subst (λ (z : Course). c.args.seat.now.hart < z.log.harts) of.1 c.args.seat.now.inside in
    let v = seat_view c.args.seat.now in
    let key = ap (λ z. course g.P.Plan.planned z) c.args.self.now.key in (
      of.0,
      omega arith,
      advertises_at (course g.P.Plan.planned c.args.self.now.table.shared.key) _ _ c.args.seat.now.hart c.args.upto c.args.seat.now.seat.me c.args.seat.now.role c.args.seat.now.own_hart c.requires.rises
          (subst (λ (z : Course). IsPassed z v.written (slice_index v.seen) v.hart c.args.upto) (sym key) c.requires.passed),
    )

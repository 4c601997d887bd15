use Rattle.std.proofs.Common.{◌≡◌, arith, ap, subst, sym}
use Rattle.order_core.specs.declared.course.Course.{Course}
use Rattle.order_core.specs.Course.{course, length_of}
use Rattle.guard_table.specs.Seats.{seat_view}
use Rattle.guard_table.proofs.PlayLemmas.{takes_back, as_many, nine_words}
use Rattle.guard_table.proofs.seats.Monitor.give_back.Goals as goal

pub join_seat-requires : goal.join_seat-requires
join_seat-requires g c =
    let plan = c.args.self.now.plan in
    let many = nine_words (course g.P.Plan.planned plan) (g.met.P.Plan.lawful plan) in
    let of = c.requires.of in
    let words = as_many _ _ _ _ of.0 of.1 c.args.head.now.on_table.0 in
    let key = ap (λ z. course g.P.Plan.planned z) c.args.self.now.key in (
      of.0,
      c.requires.seat.0,
      c.args.seat.on_table.1,
      omega arith,
      takes_back (course g.P.Plan.planned c.args.self.now.table.shared.key) _ c.args.head.now.seat.me.0 _ c.args.seat.seat.me.0 c.args.head.now.role c.args.seat.role
          (subst (λ (z : Course). (seat_view c.args.seat).progress ≡ length_of z (seat_view c.args.seat).hart) (sym key) c.requires.ended),
    )

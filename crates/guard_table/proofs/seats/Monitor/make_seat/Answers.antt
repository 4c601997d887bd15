use Rattle.std.proofs.Common.{◌<◌, arith, ap, subst, sym}
use Rattle.order_core.specs.declared.course.Course.{Course}
use Rattle.order_core.specs.Course.{course}
use Rattle.guard_table.proofs.PlayLemmas.{makes, as_many, nine_words}
use Rattle.guard_table.proofs.seats.Monitor.make_seat.Goals as goal

pub split_seat-requires : goal.split_seat-requires
split_seat-requires g c =
    let plan = c.args.self.now.plan in
    let many = nine_words (course g.P.Plan.planned plan) (g.met.P.Plan.lawful plan) in
    let of = c.requires.of in
    let words = as_many _ _ _ _ of.0 of.1 c.args.head.now.on_table.0 in
    let key = ap (λ z. course g.P.Plan.planned z) c.args.self.now.key in (
      of.0,
      omega arith,
      makes (course g.P.Plan.planned c.args.self.now.table.shared.key) _ g.row.HART c.args.head.now.seat.me.0 c.args.head.now.role (subst (λ (z : Course). g.row.HART < z.log.harts) (sym key) c.requires.inside) c.requires.once,
    )

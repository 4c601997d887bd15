use Rattle.std.proofs.Common.{◌<◌, arith, ap, subst, sym}
use Rattle.order_core.specs.declared.course.Course.{Course}
use Rattle.order_core.specs.Course.{course}
use Rattle.order_core.proofs.Known.{known}
use Rattle.guard_table.proofs.PlayLemmas.{sees, as_many, nine_words}
use Rattle.guard_table.proofs.seats.Monitor.seen.Goals as goal

pub load-requires : goal.load-requires
load-requires g c =
    let plan = c.args.self.now.plan in
    let law = g.met.P.Plan.lawful plan in
    let many = nine_words (course g.P.Plan.planned plan) law in
    let few = (known (course g.P.Plan.planned plan) law).harts in
    let inside = c.requires.inside in
    let of = c.requires.of in
    let words = as_many _ _ _ _ of.0 of.1 c.args.seat.now.on_table.0 in
    let key = ap (λ z. course g.P.Plan.planned z) c.args.self.now.key in (
      of.0,
      omega arith,
      sees (course g.P.Plan.planned c.args.self.now.table.shared.key) _ _ c.args.u c.args.seat.now.seat.me c.args.seat.now.role c.args.seat.now.eight (subst (λ (z : Course). c.args.u < z.log.harts) (sym key) inside),
    )

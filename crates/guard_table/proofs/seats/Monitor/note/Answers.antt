use Rattle.std.proofs.Common.{arith}
use Rattle.order_core.specs.Course.{course}
use Rattle.guard_table.proofs.PlayLemmas.{tells, as_many, nine_words}
use Rattle.guard_table.proofs.seats.Monitor.note.Goals as goal

pub split_seat-seat-requires : goal.split_seat-seat-requires
split_seat-seat-requires g c =
    let plan = c.args.self.now.plan in
    let many = nine_words (course g.P.Plan.planned plan) (g.met.P.Plan.lawful plan) in
    let of = c.requires in
    let words = as_many _ _ _ _ of.0 of.1 c.args.seat.now.on_table.0 in
    (of.0, omega arith, tells (course g.P.Plan.planned c.args.self.now.table.shared.key) _ c.args.seat.now.seat.me.0 c.args.seat.now.role)

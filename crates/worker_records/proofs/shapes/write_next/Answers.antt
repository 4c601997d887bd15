use Rattle.std.proofs.Common.{ℕ, sym, subst}
use Rattle.order_core.specs.declared.course.Op.{Op}
use Rattle.order_core.specs.Shapes.{filled_op}
use Rattle.shadow_frames.specs.Frames.{writes}
use Rattle.guard_table.specs.declared.put.Put.TheVariants.{Store}
use Rattle.guard_table.specs.Seats.{plan_of, seat_view}
use Rattle.worker_records.specs.Steps.{IsWriteOf}
use Rattle.worker_records.proofs.ShapeLemmas.{write_due}
use Rattle.worker_records.proofs.shapes.write_next.Goals as goal

pub write-requires-clause-may : goal.write-requires-clause-may
write-requires-clause-may g c =
    let t = c.requires.due in
    let plan = g.P.Plan.planned (plan_of c.args.monitor.now) in
    let v = seat_view c.args.seat.now in
    subst (λ (z : ℕ). (o : Op) × IsWriteOf plan v c.args.number c.args.op c.args.word (Store z) o) (sym t.3)
    (filled_op (t.1.words c.args.word) (writes c.args.word t.0), write_due plan v c.args.number c.args.op t.1 c.args.word t.0 t.2)

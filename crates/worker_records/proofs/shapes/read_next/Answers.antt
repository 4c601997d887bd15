use Rattle.shadow_frames.specs.Frames.{reads}
use Rattle.order_core.specs.Shapes.{filled_op}
use Rattle.guard_table.specs.Seats.{plan_of, seat_view}
use Rattle.worker_records.proofs.ShapeLemmas.{read_due, read_found}
use Rattle.worker_records.proofs.shapes.read_next.Goals as goal

pub read-requires-clause-may : goal.read-requires-clause-may
read-requires-clause-may g c =
    let t = c.requires.due in (
      t.0.run,
      filled_op (t.0.words c.args.word) (reads c.args.word),
      read_due (g.P.Plan.planned (plan_of c.args.monitor.now)) (seat_view c.args.seat.now) c.args.number c.args.op t.0 c.args.word t.1,
    )

pub returns-clause-value : goal.returns-clause-value
returns-clause-value g c m due = read_found (g.P.Plan.planned (plan_of c.args.monitor.now)) (seat_view c.args.seat.now) c.args.number c.args.op m c.args.word c.read.result c.read.type_inv due c.read.ensures.value

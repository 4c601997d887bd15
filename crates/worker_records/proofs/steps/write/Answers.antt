use Rattle.order_core.specs.Course.{operation_of}
use Rattle.guard_table.specs.Seats.{plan_of, seat_view}
use Rattle.worker_records.proofs.StepLemmas.{write_now}
use Rattle.worker_records.proofs.steps.write.Goals as goal

pub write-requires-clause-may : goal.write-requires-clause-may
write-requires-clause-may g c =
    let v = seat_view c.args.seat.now in
    let t = c.requires.may in
    let w = write_now (g.P.Plan.planned (plan_of c.args.monitor.now)) v c.args.number c.args.op c.args.word c.args.put t.0 t.1 in
    (t.1.at, operation_of v.hart c.args.number c.args.op t.0, w)

use Rattle.std.proofs.Common.{true}
use Rattle.order_core.specs.Course.{operation_of}
use Rattle.guard_table.specs.Seats.{plan_of, seat_view}
use Rattle.worker_records.proofs.StepLemmas.{read_now}
use Rattle.worker_records.proofs.steps.check_read.Goals as goal

pub check_read-requires-clause-may : goal.check_read-requires-clause-may
check_read-requires-clause-may g c =
    let v = seat_view c.args.seat.now in
    let t = c.requires.may in
    let r = read_now (g.P.Plan.planned (plan_of c.args.monitor.now)) v c.args.number c.args.op c.args.word true t.0 t.1 t.2 in
    (r.0, operation_of v.hart c.args.number c.args.op t.1, r.1)

pub returns-clause-value : goal.returns-clause-value
returns-clause-value g c p o is =
    let v = seat_view c.args.seat.now in
    let r = read_now (g.P.Plan.planned (plan_of c.args.monitor.now)) v c.args.number c.args.op c.args.word true p o is in
    c.check_read.ensures.value r.0 (operation_of v.hart c.args.number c.args.op o) r.1

use Rattle.guard_table.specs.Seats.{seat_view}
use Rattle.worker_records.specs.Places.{run_at}
use Rattle.lifeguard_worker.proofs.FedLemmas.{event_kind, event_told}
use Rattle.lifeguard_worker.proofs.one_record.take_record.Goals as goal

pub take_event-requires-clause-next : goal.take_event-requires-clause-next
take_event-requires-clause-next g c =
    let v = seat_view c.args.seat.now in
    let fed = c.requires.fed in
    record {
      ready = c.requires.ready;
      is = event_kind (run_at (g.L.Lifeguard.rules c.args.guard) v) v.hart fed.0 _ fed.1 fed.2 c.args.entry fed.3 c.in-Event.event c.in-Event.is;
    }

pub take_event-requires-clause-told : goal.take_event-requires-clause-told
take_event-requires-clause-told g c =
    let v = seat_view c.args.seat.now in
    let fed = c.requires.fed in
    event_told (run_at (g.L.Lifeguard.rules c.args.guard) v) v.hart fed.0 _ fed.1 fed.2 c.args.entry fed.3 c.in-Event.event c.in-Event.is c.requires.ready.run

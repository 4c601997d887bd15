use Rattle.guard_table.specs.Seats.{seat_view, IsSeatOf}
use Rattle.lifeguard_worker.specs.Turns.{HasLooked, HasSeenBelow}
use Rattle.lifeguard_worker.proofs.needs.first_short.Given as goal

abbrev pub invariant-loop-hart : goal.invariant-loop-hart
invariant-loop-hart g l = record {
  of : IsSeatOf g.P.Plan.planned l.monitor l.seat;
  looked : HasLooked (seat_view l.initial.seat) (seat_view l.seat);
  seen : HasSeenBelow l.needs (seat_view l.seat) l.hart;
}

use Rattle.std.proofs.Common.{◌≡◌, ◌+◌}
use Rattle.guard_table.specs.Seats.{seat_view}
use Rattle.turn_worker.specs.Turns.{IsLaterBy}
use Rattle.lifeguard_worker.specs.Workers.{table_of, worker_view}
use Rattle.lifeguard_worker.proofs.turns.WorkerTurnWorker.turn.Given as goal

abbrev pub invariant-loop : goal.invariant-loop
invariant-loop g l =
    let view = λ (w : _). worker_view (g.L.Lifeguard.rules w.guard) (table_of w.seat) (seat_view w.seat) w.state w.fed w.ended in
    record {
      later : IsLaterBy l.counter (view l.initial.self) (view l.self);
      taken : l.self.state.taken ≡ l.initial.self.state.taken + l.counter;
      steps : let v = view l.initial.self in l.steps + v.steps v.taken ≡ l.initial.steps + v.steps l.self.state.taken;
    }

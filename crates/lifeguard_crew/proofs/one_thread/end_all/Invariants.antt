use Rattle.std.proofs.Common.{◌≡◌, ℕ, length, vec_capacity}
use mathlib.Core.Option.{some}
use lib.ListN.{get_elem?}
use Rattle.guard_table.specs.declared.seats.GuardSeat.{GuardSeat}
use Rattle.guard_table.specs.Seats.{seat_view}
use Rattle.turn_worker.specs.declared.worker.HartResult.{HartResult}
use Rattle.turn_worker.specs.Workers.{IsOfTable}
use Rattle.turn_worker.specs.Results.{IsResult}
use Rattle.lifeguard_crew.proofs.one_thread.end_all.Given as goal

abbrev pub invariant-loop-worker : goal.invariant-loop-worker
invariant-loop-worker g l =
    let view = g.W.TurnWorker.view in
    record {
      results : length l.results.items ≡ length l.yielded;
      seats : length l.seats.items ≡ length l.yielded;
      results_room : vec_capacity l.results ≡ vec_capacity l.initial.results;
      seats_room : vec_capacity l.seats ≡ vec_capacity l.initial.seats;
      result : (k : ℕ) (w : g.row.W.Denot) (r : HartResult) → get_elem? l.yielded k ≡ some w
          → get_elem? l.results.items k ≡ some r → IsResult (view w) r;
      seat : (k : ℕ) (w : g.row.W.Denot) (s : GuardSeat) → get_elem? l.yielded k ≡ some w
          → get_elem? l.seats.items k ≡ some s → (seat_view s ≡ (view w).seat) × IsOfTable (view w).table s;
    }

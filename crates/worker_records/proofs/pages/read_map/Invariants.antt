use Rattle.std.proofs.Common.{◌≡◌, ℕ, ◌+◌, ◌<◌}
use Rattle.std.specs.Prelude.{length, slice_index}
use Rattle.guard_table.specs.Seats.{IsSeatOf, plan_of, seat_view}
use Rattle.worker_records.specs.Shapes.{IsDue, Midst}
use Rattle.worker_records.specs.Pages.{reads_from}
use Rattle.worker_records.proofs.pages.read_map.Given as goal

abbrev pub invariant-loop-i : goal.invariant-loop-i
invariant-loop-i g l = record {
  of : IsSeatOf g.P.Plan.planned l.monitor l.seat;
  view : seat_view l.seat ≡ seat_view l.initial.seat;
  size : length l.map ≡ 8;
  map : (m : Midst) → IsDue (g.P.Plan.planned (plan_of l.monitor)) (seat_view l.initial.seat) l.number l.op (reads_from 9 8) m → (j : ℕ) → j < l.i → m.words (9 + j) ≡ slice_index l.map j;
}

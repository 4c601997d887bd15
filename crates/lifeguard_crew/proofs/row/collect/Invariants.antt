use Rattle.std.proofs.Common.{◌≡◌, ◌<◌, ◌≤◌, ℕ, length, slice_index_or}
use Rattle.guard_table.specs.declared.seats.GuardSeat.{GuardSeat}
use Rattle.turn_worker.specs.declared.worker.HartResult.{HartResult}
use Rattle.lifeguard_crew.specs.declared.slot.Slot.TheVariants.{Ended}
use Rattle.lifeguard_crew.specs.inner.Slots.{slot_at}
use Rattle.lifeguard_crew.proofs.row.collect.Given as goal

abbrev pub invariant-loop-h : goal.invariant-loop-h
invariant-loop-h g l = record {
  results : length l.results.items ≡ l.h;
  seats : length l.seats.items ≡ l.h;
  done : (k : ℕ) (r : HartResult) (s : GuardSeat) → k < l.h → slot_at l.initial.from k ≡ Ended (slice_index_or l.results.items k r) (slice_index_or l.seats.items k s);
  kept : (k : ℕ) → l.h ≤ k → slot_at l.from k ≡ slot_at l.initial.from k;
}

use Rattle.std.proofs.Common.{◌≡◌, ℕ, length}
use Rattle.lifeguard_crew.specs.inner.Slots.{slot_at, IsSplit}
use Rattle.lifeguard_crew.proofs.row.part.Given as goal

abbrev pub invariant-loop-h : goal.invariant-loop-h
invariant-loop-h g l = record {
  len : length l.row.items ≡ l.h;
  split : (k : ℕ) → IsSplit (slot_at l.initial.own k) (slot_at l.own k) (slot_at l.row.items k);
}

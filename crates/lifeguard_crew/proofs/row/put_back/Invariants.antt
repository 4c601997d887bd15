use Rattle.std.proofs.Common.{◌≡◌, ◌<◌, ◌≤◌, ℕ}
use Rattle.lifeguard_crew.specs.inner.Slots.{slot_at, joined}
use Rattle.lifeguard_crew.proofs.row.put_back.Given as goal

abbrev pub invariant-loop-h : goal.invariant-loop-h
invariant-loop-h g l = record {
  done : (k : ℕ) → k < l.h → slot_at l.own k ≡ joined (slot_at l.initial.own k) (slot_at l.initial.from k);
  later : (k : ℕ) → l.h ≤ k → slot_at l.own k ≡ slot_at l.initial.own k;
  kept : (k : ℕ) → l.h ≤ k → slot_at l.from k ≡ slot_at l.initial.from k;
}

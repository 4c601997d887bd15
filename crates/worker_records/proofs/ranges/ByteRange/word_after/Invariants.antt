use Rattle.std.proofs.Common.{◌≡◌, ℕ, ◌+◌, ◌%◌, ◌^◌, ◌<◌, ◌≤◌, ◌⊎◌}
use Rattle.shadow_frames.specs.Words.{nibble_of}
use Rattle.worker_records.proofs.ranges.ByteRange.word_after.Given as goal

abbrev pub invariant-loop-i : goal.invariant-loop-i
invariant-loop-i g l = record {
  wide : l.after < 2 ^ 64;
  done : (k : ℕ) → k < l.i → nibble_of l.after (l.fn.self.addr % 16 + k) ≡ (g.L.Lifeguard.rules l.guard).range_state l.kind (nibble_of l.word (l.fn.self.addr % 16 + k));
  rest : (k : ℕ) → k < 16 → (k < l.fn.self.addr % 16) ⊎ (l.fn.self.addr % 16 + l.i ≤ k) → nibble_of l.after k ≡ nibble_of l.word k;
}

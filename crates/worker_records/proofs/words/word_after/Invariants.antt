use Rattle.std.proofs.Common.{◌≡◌, ℕ, ◌+◌, ◌%◌, ◌^◌, ◌<◌, ◌≤◌, ◌⊎◌}
use Rattle.lifeguard.specs.Plain.{mask_bit}
use Rattle.shadow_frames.specs.Words.{nibble_of}
use Rattle.worker_records.proofs.words.word_after.Given as goal

abbrev pub invariant-loop-i : goal.invariant-loop-i
invariant-loop-i g l = record {
  wide : l.after < 2 ^ 64;
  done : (k : ℕ) → k < l.i → nibble_of l.after (l.addr % 16 + k) ≡ (g.L.Lifeguard.rules l.guard).store_nibble (nibble_of l.word (l.addr % 16 + k)) (mask_bit l.mask k);
  rest : (k : ℕ) → k < 16 → (k < l.addr % 16) ⊎ (l.addr % 16 + l.i ≤ k) → nibble_of l.after k ≡ nibble_of l.word k;
}

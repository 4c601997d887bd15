use Rattle.std.proofs.Common.{◌≡◌, ℕ, ◌+◌, ◌*◌, ◌<◌, ◌≤◌, length, slice_index}
use Rattle.shadow_frames.proofs.opening.fill_frame.Given as goal

abbrev pub invariant-loop-i : goal.invariant-loop-i
invariant-loop-i l = record {
  size : length l.words ≡ 135185;
  inside : (u : ℕ) → 4113 + 256 * l.frame ≤ u → u < 4113 + 256 * l.frame + l.i → slice_index l.words u ≡ l.filling;
  outside : (u : ℕ) → (4113 + 256 * l.frame ≤ u → u < 4113 + 256 * l.frame + l.i → ⊥) → slice_index l.words u ≡ slice_index l.initial.words u;
}

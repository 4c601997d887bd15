-- A search for the lowest free frame in the eight words of the frame map.
use Rattle.std.proofs.Common.{◌≡◌, ℕ, zero, suc, ◌+◌, ◌/◌, ◌%◌, ◌<◌, ◌≤◌, Bool, true, false, List, Some, None, slice_index, sym, ap, ◌∙◌, arith, lt-ltb, if◌then◌else◌}
use mathlib.Core.Logic.{dite}
use native.Mathlib.Decide.{ℕ_discrete}
use Rattle.shadow_frames.specs.Words.{bit, is_used}
use Rattle.shadow_frames.specs.Frames.{frame_or_none, free_from, lowest_free}
use Rattle.shadow_frames.proofs.First.{free_is}

none_free : (w : ℕ → ℕ) (f n : ℕ) → ((g : ℕ) → f ≤ g → g < f + n → is_used w g ≡ true) → free_from w f n ≡ f + n
none_free w f zero used = omega arith
none_free w f (suc n) used =
    let e : suc f + n ≡ f + suc n = omega arith in
    ap (λ (b : Bool). if b then free_from w (suc f) n else f) (used f (omega arith) (omega arith)) ∙ (none_free w (suc f) n (λ g l h. used g (omega arith) (omega arith)) ∙ e)

pub one_more : (map : List ℕ) (k : ℕ) → ((f : ℕ) → f < k → bit (slice_index map (f / 64)) (f % 64) ≡ true) → bit (slice_index map (k / 64)) (k % 64) ≡ true
    → (f : ℕ) → f < k + 1 → bit (slice_index map (f / 64)) (f % 64) ≡ true
one_more map k used here f lt = dite (ℕ_discrete f k) (λ e. ap (λ (z : ℕ). bit (slice_index map (z / 64)) (z % 64)) e ∙ here) (λ ne. used f (omega arith))

module _ (map : List ℕ) (w : ℕ → ℕ) (is : (i : ℕ) → i < 8 → w (9 + i) ≡ slice_index map i) where
  same_bit : (f : ℕ) → f < 512 → is_used w f ≡ bit (slice_index map (f / 64)) (f % 64)
  same_bit f lt = ap (λ (v : ℕ). bit v (f % 64)) (is (f / 64) (omega arith))

  pub lowest_is : (k : ℕ) → k < 512 → ((f : ℕ) → f < k → bit (slice_index map (f / 64)) (f % 64) ≡ true) → bit (slice_index map (k / 64)) (k % 64) ≡ false → Some k ≡ frame_or_none (lowest_free w)
  unfolding lowest_free
  lowest_is k low used free =
      ap (λ (b : Bool). if b then Some k else None) (sym (lt-ltb k 512 low))
      ∙ ap frame_or_none (sym (free_is w 0 512 k (omega arith) (omega arith) (λ g l h. same_bit g (omega arith) ∙ used g h) (same_bit k low ∙ free)))

  pub lowest_none : ((f : ℕ) → f < 512 → bit (slice_index map (f / 64)) (f % 64) ≡ true) → None ≡ frame_or_none (lowest_free w)
  unfolding lowest_free
  lowest_none used = ap frame_or_none (sym (none_free w 0 512 (λ g l h. same_bit g (omega arith) ∙ used g (omega arith))))

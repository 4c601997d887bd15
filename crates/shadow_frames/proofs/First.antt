-- The frames of the start, one after the other.
use Rattle.std.proofs.Common.{◌≡◌, ℕ, zero, suc, ◌+◌, ◌<◌, ◌≤◌, Bool, true, false, ltb, List, sym, ap, ◌∙◌, subst, arith, lt-ltb, le-ltb, if◌then◌else◌}
use mathlib.Core.Logic.{dite}
use native.Mathlib.Decide.{ℕ_discrete, dec_le}
use Rattle.order_core.specs.Shapes.{Shape, after_shapes}
use Rattle.shadow_frames.specs.Frames.{free_from, lowest_free, map_page, frame_shapes}
use Rattle.shadow_frames.specs.Words.{is_used, AreFirstFrames}
use Rattle.shadow_frames.proofs.Mapping.{used_now, used_else}

-- the lowest free frame
pub free_is : (w : ℕ → ℕ) (f n k : ℕ) → f ≤ k → k < f + n → ((g : ℕ) → f ≤ g → g < k → is_used w g ≡ true) → is_used w k ≡ false → free_from w f n ≡ k
free_is w f zero k low high used free = absurd (omega arith)
free_is w f (suc n) k low high used free = dite (ℕ_discrete f k)
    (λ e. ap (λ (b : Bool). if b then free_from w (suc f) n else f) (ap (is_used w) e ∙ free) ∙ e)
    (λ ne. ap (λ (b : Bool). if b then free_from w (suc f) n else f) (used f (omega arith) (omega arith)) ∙ free_is w (suc f) n k (omega arith) (omega arith) (λ g l h. used g (omega arith) h) free)

module _ (w : ℕ → ℕ) (filling p k : ℕ) (inside : k < 512) (first : AreFirstFrames w k) where
  free : is_used w k ≡ false
  free = first k inside ∙ le-ltb k k (omega arith)

  here : lowest_free w ≡ k
  unfolding lowest_free
  here = free_is w 0 512 k (omega arith) (omega arith) (λ g l h. first g (omega arith) ∙ lt-ltb g k h) free

  pub next_shapes : map_page filling w p ≡ frame_shapes k p filling
  unfolding map_page
  next_shapes = ap (λ (f : ℕ). frame_shapes f p filling) here

  next_first : p < 4096 → AreFirstFrames (after_shapes w (frame_shapes k p filling)) (k + 1)
  next_first small g lt = dite (ℕ_discrete g k)
      (λ e. subst (λ (z : ℕ). is_used (after_shapes w (frame_shapes k p filling)) z ≡ ltb z (k + 1)) (sym e) (used_now w p k filling small inside free ∙ sym (lt-ltb k (k + 1) (omega arith))))
      (λ ne. used_else w p k filling small inside free g lt ne ∙ (first g lt ∙ dite (dec_le k g)
      (λ l. le-ltb g k l ∙ sym (le-ltb g (k + 1) (omega arith)))
      (λ n. lt-ltb g k (omega arith) ∙ sym (lt-ltb g (k + 1) (omega arith)))))

  pub next_frames : p < 4096 → AreFirstFrames (after_shapes w (map_page filling w p)) (k + 1)
  next_frames small = subst (λ (ss : List Shape). AreFirstFrames (after_shapes w ss) (k + 1)) (sym next_shapes) (next_first small)

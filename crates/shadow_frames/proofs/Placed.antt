-- A page gets its frame.
use Rattle.std.proofs.Common.{◌≡◌, ℕ, ◌+◌, ◌-◌, ◌*◌, ◌/◌, ◌%◌, ◌^◌, ◌<◌, ◌≤◌, List, length, slice_index, slice_set, sym, ap, ◌∙◌, arith}
use Rattle.std.proofs.lemmas.List.{get_or-set_same, get_or-set_other, length-set}
use Rattle.std.proofs.Math.Path.{fun_ext}
use mathlib.Core.Logic.{dite}
use native.Mathlib.Decide.{ℕ_discrete, dec_le}
use Rattle.order_core.specs.Core.{put}
use Rattle.shadow_frames.proofs.Mapping.{put_here, put_else}
use Rattle.shadow_frames.proofs.Mapping as mapping
use Rattle.shadow_frames.specs.Opening.{after_page}

set_at : (xs : List ℕ) (i v j : ℕ) → i < length xs → slice_index (slice_set xs i v) j ≡ put (λ u. slice_index xs u) i v j
set_at xs i v j lt = dite (ℕ_discrete j i)
    (λ e. ap (slice_index (slice_set xs i v)) e ∙ (get_or-set_same xs i v 0 lt ∙ sym (ap (put (λ u. slice_index xs u) i v) e ∙ put_here (λ u. slice_index xs u) i v)))
    (λ ne. get_or-set_other xs i j v 0 ne ∙ sym (put_else (λ u. slice_index xs u) i j v ne))

module _ (xs ys : List ℕ) (p f filling v : ℕ) (size : length xs ≡ 135185) (small : p < 4096) (low : f < 512) (bit : v ≡ slice_index xs (9 + f / 64) + 2 ^ (f % 64))
    (inside : (u : ℕ) → 4113 + 256 * f ≤ u → u < 4113 + 256 * f + 256 → slice_index ys u ≡ filling)
    (outside : (u : ℕ) → (4113 + 256 * f ≤ u → u < 4113 + 256 * f + 256 → ⊥) → slice_index ys u ≡ slice_index (slice_set (slice_set xs (9 + f / 64) v) (17 + p) (f + 1)) u) where
  abbrev w : ℕ → ℕ
  w u = slice_index xs u

  two_sets : (u : ℕ) → slice_index (slice_set (slice_set xs (9 + f / 64) v) (17 + p) (f + 1)) u ≡ mapping.listed w p f filling small low u
  two_sets u =
      let d : f / 64 < 8 = omega arith in
      let long : length (slice_set xs (9 + f / 64) v) ≡ length xs = length-set xs (9 + f / 64) v in
      set_at (slice_set xs (9 + f / 64) v) (17 + p) (f + 1) u (omega arith)
      ∙ (λ i. put (λ u. (set_at xs (9 + f / 64) v u (omega arith) ∙ ap (λ (z : ℕ). put w (9 + f / 64) z u) bit) i) (17 + p) (f + 1) u)

  placed_at : (u : ℕ) → slice_index ys u ≡ after_page w p f filling u
  unfolding after_page
  placed_at u = dite (dec_le (4113 + 256 * f) u)
      (λ l. dite (dec_le (4113 + 256 * f + 256) u)
      (λ g. out (λ x y. omega arith))
      (λ g. let k : 4113 + 256 * f + (u - (4113 + 256 * f)) ≡ u = omega arith in
      inside u l (omega arith) ∙ sym (ap (mapping.next w p f filling small low) (sym k) ∙ mapping.in_frame w p f filling small low (u - (4113 + 256 * f)) (omega arith))))
      (λ n. out (λ x y. n x))
    where
      out : (4113 + 256 * f ≤ u → u < 4113 + 256 * f + 256 → ⊥) → slice_index ys u ≡ mapping.next w p f filling small low u
      out o = outside u o ∙ (two_sets u ∙ sym (mapping.below_frame w p f filling small low u o))

  pub placed : slice_index ys ≡ after_page w p f filling
  placed = fun_ext (λ u. placed_at u)

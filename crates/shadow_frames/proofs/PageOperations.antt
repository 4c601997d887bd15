-- Where the operations of a page are among those of its record.
use Rattle.std.proofs.Common.{◌≡◌, ℕ, zero, suc, ◌+◌, ◌<◌, List, [], ◌∷◌, ◌++◌, length, slice_get, refl, sym, ap, ◌∙◌, subst, arith}
use Rattle.order_core.specs.Shapes.{Shape, fill, after_shape, after_shapes}
use Rattle.shadow_frames.specs.Frames.{pages_from}
use Rattle.shadow_frames.proofs.Many.{after_append, append_length}

-- an operation of the second of two lists
op_of_second : (w : ℕ → ℕ) (xs ys : List Shape) (i j : ℕ) → i ≡ length xs + j → slice_get (fill w (xs ++ ys)) i ≡ slice_get (fill (after_shapes w xs) ys) j
op_of_second w [] ys i j e = ap (slice_get (fill w ys)) (omega arith)
op_of_second w (x ∷ xs) ys zero j e = absurd (omega arith)
op_of_second w (x ∷ xs) ys (suc i) j e = op_of_second (after_shape w x) xs ys i j (omega arith)

-- and one of the first
op_of_first : (w : ℕ → ℕ) (xs ys : List Shape) (j : ℕ) → j < length xs → slice_get (fill w (xs ++ ys)) j ≡ slice_get (fill w xs) j
op_of_first w [] ys j lt = absurd (omega arith)
op_of_first w (x ∷ xs) ys zero lt = refl
op_of_first w (x ∷ xs) ys (suc j) lt = op_of_first (after_shape w x) xs ys j (omega arith)

module _ (page : (ℕ → ℕ) → ℕ → List Shape) where
  pub op_of_page : (k : ℕ) (w : ℕ → ℕ) (p n j : ℕ) → k < n → j < length (page (after_shapes w (pages_from page w p k)) (p + k))
      → slice_get (fill w (pages_from page w p n)) (length (pages_from page w p k) + j) ≡ slice_get (fill (after_shapes w (pages_from page w p k)) (page (after_shapes w (pages_from page w p k)) (p + k))) j
  op_of_page k w p zero j less lt = absurd (omega arith)
  op_of_page zero w p (suc n) j less lt =
      let e : p + 0 ≡ p = omega arith in
      let z : 0 + j ≡ j = omega arith in
      ap (slice_get (fill w (pages_from page w p (suc n)))) z
      ∙ (op_of_first w (page w p) (pages_from page (after_shapes w (page w p)) (suc p) n) j (subst (λ (q : ℕ). j < length (page w q)) e lt)
      ∙ ap (λ (q : ℕ). slice_get (fill w (page w q)) j) (sym e))
  op_of_page (suc k) w p (suc n) j less lt =
      let v : ℕ → ℕ = after_shapes w (page w p) in
      let e : p + suc k ≡ suc p + k = omega arith in
      let s = after_append w (page w p) (pages_from page (after_shapes w (page w p)) (suc p) k) in
      let l : length (page w p ++ pages_from page (after_shapes w (page w p)) (suc p) k) ≡ length (page w p) + length (pages_from page (after_shapes w (page w p)) (suc p) k) = append_length (page w p) (pages_from page (after_shapes w (page w p)) (suc p) k) in
      op_of_second w (page w p) (pages_from page (after_shapes w (page w p)) (suc p) n) (length (page w p ++ pages_from page (after_shapes w (page w p)) (suc p) k) + j) (length (pages_from page (after_shapes w (page w p)) (suc p) k) + j) (omega arith)
      ∙ (op_of_page k (after_shapes w (page w p)) (suc p) n j (omega arith) (subst (λ (z : (ℕ → ℕ) × ℕ). j < length (page z.0 z.1)) (λ d. (s d, e d)) lt)
      ∙ (λ d. slice_get (fill (sym s d) (page (sym s d) (sym e d))) j))

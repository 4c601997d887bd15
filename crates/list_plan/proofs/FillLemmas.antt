-- Operations that are added one after the other.
use Rattle.std.proofs.Common.{◌≡◌, ℕ, zero, suc, ◌+◌, List, [], ◌∷◌, ◌++◌, append-nil, append_assoc, refl, sym, ap, ◌∙◌, subst, arith}
use Rattle.order_core.specs.declared.course.Op.{Op}
use Rattle.order_core.specs.Shapes.{Shape, fill, after_shape, after_shapes}
use Rattle.shadow_frames.specs.Frames.{fills, pages_from, writes}
use Rattle.shadow_frames.proofs.Many.{after_append, fill_append, pages_more}
use Rattle.list_plan.specs.declared.filler.Filler.{Filler}
use Rattle.list_plan.specs.inner.Fills.{Fills, words_of}
use Rattle.list_plan.specs.inner.Pieces.{word_filled}

pub none_fills : (a : Filler) → Fills a a []
none_fills a = record { words = refl; operations = sym (append-nil a.operations.items) }

pub then_fills : (a b c : Filler) (xs ys : List Shape) → Fills a b xs → Fills b c ys → Fills a c (xs ++ ys)
then_fills a b c xs ys p q = record {
  words = q.words ∙ (ap (λ (w : ℕ → ℕ). after_shapes w ys) p.words ∙ sym (after_append (words_of a) xs ys));
  operations =
      q.operations
      ∙ (ap (λ (w : ℕ → ℕ). b.operations.items ++ fill w ys) p.words
      ∙ (ap (λ (os : List Op). os ++ fill (after_shapes (words_of a) xs) ys) p.operations
      ∙ (append_assoc a.operations.items (fill (words_of a) xs) (fill (after_shapes (words_of a) xs) ys)
      ∙ ap (λ (os : List Op). a.operations.items ++ os) (sym (fill_append (words_of a) xs ys)))));
}

-- one page or block more
pub fills_next : (page : (ℕ → ℕ) → ℕ → List Shape) (a b c : Filler) (p n : ℕ) → Fills a b (pages_from page (words_of a) p n) → Fills b c (page (words_of b) (p + n))
    → Fills a c (pages_from page (words_of a) p (n + 1))
fills_next page a b c p n x y =
    let e : suc n ≡ n + 1 = omega arith in
    let before : List Shape = pages_from page (words_of a) p n in
    subst (Fills a c)
    (ap (λ (w : ℕ → ℕ). pages_from page (words_of a) p n ++ page w (p + n)) x.words
    ∙ (sym (pages_more page n (words_of a) p) ∙ ap (pages_from page (words_of a) p) e))
    (then_fills a b c (pages_from page (words_of a) p n) (page (words_of b) (p + n)) x y)

-- words that are written with one value, one after the other
pub fills_are : (value : ℕ) (w : ℕ → ℕ) (first n : ℕ) → pages_from (word_filled value) w first n ≡ fills first value n
unfolding word_filled
fills_are value w first zero = refl
fills_are value w first (suc n) =
    ap (λ (ss : List Shape). writes first (λ _. value) ∷ ss) (fills_are value (after_shape w (writes first (λ _. value))) (suc first) n)

-- The first line of a text.
use Rattle.std.proofs.Common.{◌≡◌, ℕ, suc, ◌+◌, Bool, true, false, not, cond, eqb, List, [], ◌∷◌, take, drop, refl, ap, ◌∙◌, arith}
use Rattle.std.specs.List.{position_or_len, before_first, after_first, onto_first}
use Rattle.guest_asm.specs.Texts.{lines_of}

abbrev pub is_end : ℕ → Bool
is_end b = eqb b 10

ahead : (n : ℕ) → suc n ≡ 1 + n
ahead n = omega arith

later : (n : ℕ) → suc (n + 1) ≡ suc n + 1
later n = omega arith

cut_by : (b : ℕ) (bs : List ℕ) → onto_first b (lines_of bs) ≡ (b ∷ before_first is_end bs) ∷ lines_of (after_first is_end bs) → (t : Bool)
    → cond t ([] ∷ lines_of bs) (onto_first b (lines_of bs))
    ≡ take (cond (not t) (1 + position_or_len is_end bs) 0) (b ∷ bs) ∷ lines_of (drop (cond (not t) (1 + position_or_len is_end bs) 0 + 1) (b ∷ bs))
cut_by b bs onto true = refl
cut_by b bs onto false =
    onto
    ∙ ap (λ (k : ℕ). (b ∷ before_first is_end bs) ∷ lines_of (drop k (b ∷ bs))) (later (position_or_len is_end bs))
    ∙ ap (λ (k : ℕ). take k (b ∷ bs) ∷ lines_of (drop (k + 1) (b ∷ bs))) (ahead (position_or_len is_end bs))

-- the first line ends at the first line feed
pub lines-cut : (b : ℕ) (bs : List ℕ) → lines_of (b ∷ bs) ≡ before_first is_end (b ∷ bs) ∷ lines_of (after_first is_end (b ∷ bs))
lines-cut b [] = cut_by b [] refl (eqb b 10)
lines-cut b (c ∷ cs) = cut_by b (c ∷ cs) (ap (onto_first b) (lines-cut c cs)) (eqb b 10)

-- Masks, one register and one hart after the other.
use Rattle.std.proofs.Common.{◌≡◌, ℕ, zero, suc, ◌+◌, ◌<◌, List, [], ◌∷◌, ◌++◌, length, take, map}
use Rattle.std.proofs.Common.{sym, ap, ◌∙◌, arith, add-zero}
use Rattle.std.proofs.Math.ListN.{set}
use Rattle.std.proofs.lemmas.List.{take_more_set, map-append}
use Rattle.lifeguard.specs.State.{span}

-- one more address
span-more : (a n : ℕ) → span a (n + 1) ≡ span a n ++ (a + n) ∷ []
span-more a zero = ap (λ (b : ℕ). b ∷ []) (sym (add-zero a))
span-more a (suc n) =
    let at : suc a + n ≡ a + suc n = omega arith in
    let one : suc n + 1 ≡ suc (n + 1) = omega arith in
    ap (span a) one ∙ ap (λ (xs : List ℕ). a ∷ xs) (span-more (suc a) n ∙ ap (λ (b : ℕ). span (suc a) n ++ b ∷ []) at)

-- one more value of a row
pub map_span-more : {X : Type 0} (f : ℕ → X) (n : ℕ) → map f (span 0 (n + 1)) ≡ map f (span 0 n) ++ f n ∷ []
map_span-more f n =
    let at : 0 + n ≡ n = omega arith in
    ap (map f) (span-more 0 n ∙ ap (λ (b : ℕ). span 0 n ++ b ∷ []) at) ∙ map-append f (span 0 n) (n ∷ [])

pub row-more : (f : ℕ → ℕ) (xs : List ℕ) (n : ℕ) → n < length xs → take n xs ≡ map f (span 0 n)
    → take (n + 1) (set xs n (f n)) ≡ map f (span 0 (n + 1))
row-more f xs n lt e = take_more_set xs n (f n) lt ∙ ap (λ (ys : List ℕ). ys ++ f n ∷ []) e ∙ sym (map_span-more f n)

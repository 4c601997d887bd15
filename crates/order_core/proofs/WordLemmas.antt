-- The first elements of a list, and one more.
use Rattle.std.proofs.Common.{◌≡◌, ℕ, zero, suc, ◌+◌, List, [], ◌∷◌, ◌++◌, take, Some, None, slice_get, ap, ◌∙◌, arith}

take_next : {A : Type 0} (xs : List A) (i : ℕ) (x : A) → slice_get xs i ≡ Some x → take i xs ++ x ∷ [] ≡ take (suc i) xs
take_next [] i x e = absurd (let f : None ≡ Some x = e in cc)
take_next (y ∷ xs) zero x e = let same : x ≡ y = (let f : Some y ≡ Some x = e in cc) in ap (λ z. z ∷ []) same
take_next (y ∷ xs) (suc i) x e = ap (λ zs. y ∷ zs) (take_next xs i x e)

pub take_more : {A : Type 0} (xs : List A) (i : ℕ) (x : A) → slice_get xs i ≡ Some x → take i xs ++ x ∷ [] ≡ take (i + 1) xs
take_more xs i x e = take_next xs i x e ∙ (let s : suc i ≡ i + 1 = omega arith in ap (λ (z : ℕ). take z xs) s)

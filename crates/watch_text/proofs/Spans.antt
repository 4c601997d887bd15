-- Lists whose elements are known by their places.
use Rattle.std.proofs.Common.{◌≡◌, ℕ, zero, suc, ◌+◌, ◌<◌, ◌≤◌, List, [], ◌∷◌, ◌++◌, length, map, take, get_or, refl, sym, ap, ◌∙◌}
use Rattle.std.proofs.Common.{arith, add-zero}
use Rattle.std.specs.List.{flat_map}
use Rattle.std.proofs.lemmas.List.{map-append, take_more}
use mathlib.Core.Option.{some}
use lib.ListN.{get_elem?}
use Rattle.lifeguard.specs.State.{span}

-- so many places on
later : (start k : ℕ) → start + suc k ≡ suc start + k
later start k = omega arith

from_zero : (k : ℕ) → k ≡ 0 + k
from_zero k = omega arith

spanned_from : {X Y : Type 0} (f : X → Y) (g : ℕ → Y) (xs : List X) (start : ℕ)
    → ((k : ℕ) (x : X) → get_elem? xs k ≡ some x → f x ≡ g (start + k))
    → map f xs ≡ map g (span start (length xs))
spanned_from f g [] start each = refl
spanned_from {X} {Y} f g (x ∷ xs) start each =
    ap (λ (y : Y). y ∷ map f xs) (each 0 x refl ∙ ap g (add-zero start))
    ∙ ap (λ (ys : List Y). g start ∷ ys)
    (spanned_from f g xs (suc start) (λ k y at. each (suc k) y at ∙ ap g (later start k)))

-- what f gives of each element is what g gives of its place
pub spanned : {X Y : Type 0} (f : X → Y) (g : ℕ → Y) (xs : List X)
    → ((k : ℕ) (x : X) → get_elem? xs k ≡ some x → f x ≡ g k) → map f xs ≡ map g (span 0 (length xs))
spanned f g xs each = spanned_from f g xs 0 (λ k x at. each k x at ∙ ap g (from_zero k))

flat_from : {X Y : Type 0} (f : X → List Y) (g : ℕ → List Y) (xs : List X) (start : ℕ)
    → ((k : ℕ) (x : X) → get_elem? xs k ≡ some x → f x ≡ g (start + k))
    → flat_map f xs ≡ flat_map g (span start (length xs))
flat_from f g [] start each = refl
flat_from {X} {Y} f g (x ∷ xs) start each =
    ap (λ (ys : List Y). ys ++ flat_map f xs) (each 0 x refl ∙ ap g (add-zero start))
    ∙ ap (λ (ys : List Y). g start ++ ys)
    (flat_from f g xs (suc start) (λ k y at. each (suc k) y at ∙ ap g (later start k)))

-- and so for texts, one after the other
pub flat_spanned : {X Y : Type 0} (f : X → List Y) (g : ℕ → List Y) (xs : List X)
    → ((k : ℕ) (x : X) → get_elem? xs k ≡ some x → f x ≡ g k) → flat_map f xs ≡ flat_map g (span 0 (length xs))
flat_spanned f g xs each = flat_from f g xs 0 (λ k x at. each k x at ∙ ap g (from_zero k))

same_from : {Y : Type 0} (f g : ℕ → Y) (start n : ℕ) → ((r : ℕ) → r < start + n → f r ≡ g r)
    → map f (span start n) ≡ map g (span start n)
same_from f g start zero each = refl
same_from {Y} f g start (suc n) each =
    ap (λ (y : Y). y ∷ map f (span (suc start) n)) (each start (omega arith))
    ∙ ap (λ (ys : List Y). g start ∷ ys)
    (same_from f g (suc start) n (λ r lt. let low : r < suc start + n = lt in each r (omega arith)))

-- two functions that agree below n
pub same_on : {Y : Type 0} (f g : ℕ → Y) (n : ℕ) → ((r : ℕ) → r < n → f r ≡ g r) → map f (span 0 n) ≡ map g (span 0 n)
same_on f g n each = same_from f g 0 n (λ r lt. let low : r < 0 + n = lt in each r (omega arith))

-- one more element
pub map_take_more : {X Y : Type 0} (f : X → Y) (xs : List X) (i : ℕ) (x : X) → i < length xs → x ≡ get_or xs i x
    → map f (take (i + 1) xs) ≡ map f (take i xs) ++ f x ∷ []
map_take_more {X} f xs i x lt is =
    ap (map f) (take_more xs i x lt ∙ ap (λ (y : X). take i xs ++ y ∷ []) (sym is)) ∙ map-append f (take i xs) (x ∷ [])

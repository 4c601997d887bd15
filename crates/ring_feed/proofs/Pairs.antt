-- Two lists of one length that grow together.
use Rattle.std.proofs.Common.{◌≡◌, ℕ, zero, suc, ◌<◌, List, [], ◌∷◌, ◌++◌, length, map, get_or, take, drop, refl, sym, ap, subst, arith}
use mathlib.Core.Option.{some, some-injective, some-ne-none}
use lib.ListN.{get_elem?}

pub at_get : {A : Type 0} (xs : List A) (i : ℕ) (d : A) → i < length xs → get_elem? xs i ≡ some (get_or xs i d)
at_get [] i d lt = absurd (omega arith)
at_get (x ∷ xs) zero d lt = refl
at_get (x ∷ xs) (suc i) d lt = at_get xs i d (omega arith)

pub at_here : {A : Type 0} (xs : List A) (i : ℕ) (x : A) → i < length xs → x ≡ get_or xs i x → get_elem? xs i ≡ some x
at_here [] i x lt e = absurd (omega arith)
at_here (y ∷ ys) zero x lt e = ap some (sym e)
at_here (y ∷ ys) (suc i) x lt e = at_here ys i x (omega arith) e

pub pairs_more : {A B : Type 0} (Q : A → B → Type 0) (xs : List A) (ys : List B) (x : A) (y : B) → length ys ≡ length xs
    → ((k : ℕ) (a : A) (b : B) → get_elem? xs k ≡ some a → get_elem? ys k ≡ some b → Q a b) → Q x y
    → (k : ℕ) (a : A) (b : B) → get_elem? (xs ++ x ∷ []) k ≡ some a → get_elem? (ys ++ y ∷ []) k ≡ some b → Q a b
pairs_more Q [] [] x y e old new zero a b at_a at_b = subst (Q a) (some-injective y b at_b) (subst (λ z. Q z y) (some-injective x a at_a) new)
pairs_more Q [] [] x y e old new (suc k) a b at_a at_b = absurd (some-ne-none a (sym at_a))
pairs_more Q [] (v ∷ ys) x y e old new k a b at_a at_b = absurd (omega arith)
pairs_more Q (u ∷ xs) [] x y e old new k a b at_a at_b = absurd (omega arith)
pairs_more Q (u ∷ xs) (v ∷ ys) x y e old new zero a b at_a at_b = old zero a b at_a at_b
pairs_more Q (u ∷ xs) (v ∷ ys) x y e old new (suc k) a b at_a at_b =
    pairs_more Q xs ys x y (omega arith) (λ j. old (suc j)) new k a b at_a at_b

pub map_self : {A : Type 0} (xs : List A) → map (λ x. x) xs ≡ xs
map_self [] = refl
map_self (x ∷ xs) = ap (λ ys. x ∷ ys) (map_self xs)

-- a slice of the whole Vec, written back
pub written_back : {A : Type 0} (n : ℕ) (old new : List A) → n ≡ length old → length new ≡ length old
    → take n (new ++ drop (length new) old) ≡ new
written_back zero [] [] e f = refl
written_back (suc n) [] [] e f = absurd (omega arith)
written_back n [] (y ∷ new) e f = absurd (omega arith)
written_back n (x ∷ old) [] e f = absurd (omega arith)
written_back zero (x ∷ old) (y ∷ new) e f = absurd (omega arith)
written_back (suc n) (x ∷ old) (y ∷ new) e f = ap (λ ys. y ∷ ys) (written_back n old new (omega arith) (omega arith))

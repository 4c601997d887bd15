-- The first place of a list, or its length.
use Rattle.std.proofs.Common.{◌≡◌, ℕ, Bool, true, false, not, cond, ltb, List, length, Some, None, refl, arith}
use Rattle.std.specs.List.{position, position_or_len}
use Rattle.std.proofs.lemmas.Bool.{ltb-false}
use Rattle.std.proofs.lemmas.List.Sums.{prefix_len-le-length}

at_some : (t : Bool) (n i : ℕ) → Some i ≡ cond t (Some n) None → i ≡ n
at_some true n i e = cc
at_some false n i e = absurd cc

at_none : (t : Bool) (n : ℕ) → None ≡ cond t (Some n) None → t ≡ false
at_none true n e = absurd cc
at_none false n e = refl

pub some_place : {X : Type 0} (p : X → Bool) (xs : List X) (i : ℕ) → Some i ≡ position p xs → i ≡ position_or_len p xs
some_place p xs i e = at_some (ltb (position_or_len p xs) (length xs)) (position_or_len p xs) i e

pub no_place : {X : Type 0} (p : X → Bool) (xs : List X) → None ≡ position p xs → length xs ≡ position_or_len p xs
no_place p xs e =
    let far = ltb-false (position_or_len p xs) (length xs) (at_none (ltb (position_or_len p xs) (length xs)) (position_or_len p xs) e) in
    let near = prefix_len-le-length (λ x. not (p x)) xs in
    omega arith

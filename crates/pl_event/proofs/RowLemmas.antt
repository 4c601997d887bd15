-- Rows, and beside them a list of what most rows lack, when one more row has some.
use Rattle.std.proofs.Common.{◌≡◌, ℕ, suc, ◌+◌, ◌-◌, ◌≤◌, List, [], ◌∷◌, ◌++◌, length, map, get_or, Option, Some, None, MatchOption, refl, ap, sym, ◌∙◌, arith}
use Rattle.std.specs.List.{All, AllByRecursion}
use Rattle.std.proofs.lemmas.List.{get_or_append_left, get_or-append_right, map-append}
use Rattle.std.proofs.lemmas.List.Elements.{recursion_from_All}

-- the slot that was found
pub slot_is : (P : Type 0) (n slot : ℕ) (found : Option ℕ) → MatchOption found P (λ s. s ≡ n) → found ≡ Some slot → slot ≡ n
slot_is P n slot None is e = absurd cc
slot_is P n slot (Some s) is e = let same : s ≡ slot = cc in sym same ∙ is

module _ {A R L : Type 0} (none : A) (made : A → R → L) (slot : R → ℕ) where
  abbrev at : List A → ℕ → A
  at xs s = get_or (none ∷ xs) s none

  abbrev made_of : List A → R → L
  made_of xs row = made (at xs (slot row)) row

  -- the rows before keep what they have
  kept : (xs : List A) (x : A) (rows : List R) → AllByRecursion (λ row. slot row ≤ length xs) rows → map (made_of (xs ++ x ∷ [])) rows ≡ map (made_of xs) rows
  kept xs x [] all = refl
  kept xs x (row ∷ rows) all =
      let same : at (xs ++ x ∷ []) (slot row) ≡ at xs (slot row) = get_or_append_left (none ∷ xs) (x ∷ []) none (slot row) (omega (arith, all.0)) in
      ap (λ (a : A). made a row ∷ map (made_of (xs ++ x ∷ [])) rows) same ∙ ap (λ (ls : List L). made_of xs row ∷ ls) (kept xs x rows all.1)

  -- the last one
  last : (xs : List A) (x : A) (s : ℕ) → s ≡ length xs + 1 → at (xs ++ x ∷ []) s ≡ x
  last xs x s is =
      let first : s - suc (length xs) ≡ 0 = omega arith in
      get_or-append_right (none ∷ xs) (x ∷ []) (suc (length xs)) s none refl (omega arith) ∙ ap (λ (i : ℕ). get_or (x ∷ []) i none) first

  pub rows-push : (xs : List A) (x : A) (rows : List R) (row : R) → All (λ row. slot row ≤ length xs) rows → slot row ≡ length xs + 1
      → map (made_of (xs ++ x ∷ [])) (rows ++ row ∷ []) ≡ map (made_of xs) rows ++ made x row ∷ []
  rows-push xs x rows row all is =
      map-append (made_of (xs ++ x ∷ [])) rows (row ∷ [])
      ∙ ap (λ (ls : List L). ls ++ made_of (xs ++ x ∷ []) row ∷ []) (kept xs x rows (recursion_from_All (λ row. slot row ≤ length xs) rows all))
      ∙ ap (λ (a : A). map (made_of xs) rows ++ made a row ∷ []) (last xs x (slot row) is)

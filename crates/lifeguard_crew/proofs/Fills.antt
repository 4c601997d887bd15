-- Rows and lists that are filled from their start.
use Rattle.std.proofs.Common.{◌≡◌, ℕ, zero, suc, List, [], ◌∷◌, ◌++◌, length, refl, sym, subst, arith}
use mathlib.Core.Option.{some, some-injective, some-ne-none}
use lib.ListN.{get_elem?}
use Rattle.lifeguard_crew.specs.declared.slot.Slot.{Slot}
use Rattle.lifeguard_crew.specs.inner.Slots.{slot_at}

-- what comes after the first n
pub at_seam : {A : Type 0} (xs ys : List A) (x : A) (n : ℕ) → length xs ≡ n → get_elem? (xs ++ x ∷ ys) n ≡ some x
at_seam [] ys x zero e = refl
at_seam [] ys x (suc n) e = absurd (omega arith)
at_seam (z ∷ xs) ys x zero e = absurd (omega arith)
at_seam (z ∷ xs) ys x (suc n) e = at_seam xs ys x n (omega arith)

module _ {W : Type 0} where
  -- what holds of each slot of a row and of one slot more
  pub each_slot : (A : Slot W → Type 0) (row : List (Slot W)) (s : Slot W) → ((h : ℕ) → A (slot_at row h)) → A s
      → (h : ℕ) → A (slot_at (row ++ s ∷ []) h)
  each_slot A [] s each new zero = new
  each_slot A [] s each new (suc h) = each h
  each_slot A (r ∷ row) s each new zero = each zero
  each_slot A (r ∷ row) s each new (suc h) = each_slot A row s (λ k. each (suc k)) new h

  -- and of each slot with what has its number in a list
  pub each_with : {X : Type 0} (Q : X → Slot W → Type 0) (xs : List X) (row : List (Slot W)) (x : X) (s : Slot W) → length row ≡ length xs
      → ((k : ℕ) (y : X) → get_elem? xs k ≡ some y → Q y (slot_at row k)) → Q x s
      → (k : ℕ) (y : X) → get_elem? (xs ++ x ∷ []) k ≡ some y → Q y (slot_at (row ++ s ∷ []) k)
  each_with Q [] [] x s e old new zero y at = subst (λ z. Q z s) (some-injective x y at) new
  each_with Q [] [] x s e old new (suc k) y at = absurd (some-ne-none y (sym at))
  each_with Q [] (r ∷ row) x s e old new k y at = absurd (omega arith)
  each_with Q (z ∷ xs) [] x s e old new k y at = absurd (omega arith)
  each_with Q (z ∷ xs) (r ∷ row) x s e old new zero y at = old zero y at
  each_with Q (z ∷ xs) (r ∷ row) x s e old new (suc k) y at = each_with Q xs row x s (omega arith) (λ j. old (suc j)) new k y at

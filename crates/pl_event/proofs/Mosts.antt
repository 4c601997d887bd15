-- The greatest of two facts' numbers.
use Rattle.std.proofs.Common.{IsTrue, ◌↔◌, is_some, true, false, ◌≡◌, ℕ, ◌≤◌, ◌⊎◌, max, Option, Some, None, refl, subst, inl, inr, ⊎_elim, arith}
use mathlib.Core.Logic.{dite}
use native.Mathlib.Decide.{dec_le}
use Rattle.pl_event.specs.Needs.{IsMost}
use Rattle.pl_event.specs.inner.Later.{later}

pub later_most : (P Q : ℕ → Type 0) (a b : Option ℕ) → IsMost P a → IsMost Q b → IsMost (λ n. P n ⊎ Q n) (later a b)
later_most P Q None None p q = λ k e. ⊎_elim (λ (x : P k). p k x) (λ (x : Q k). q k x) e
later_most P Q None (Some y) p q = (inr q.0, λ k e. ⊎_elim (λ (x : P k). absurd (p k x)) (λ (x : Q k). q.1 k x) e)
later_most P Q (Some x) None p q = (inl p.0, λ k e. ⊎_elim (λ (a : P k). p.1 k a) (λ (a : Q k). absurd (q k a)) e)
later_most P Q (Some x) (Some y) p q = (
  dite (dec_le x y)
      (λ (l : x ≤ y). let e : y ≡ max x y = omega arith in inr (subst Q e q.0))
      (λ n. let l : x ≤ y → ⊥ = n in let e : x ≡ max x y = omega arith in inl (subst P e p.0)),
  λ k e. ⊎_elim (λ (a : P k). let l : k ≤ x = p.1 k a in omega arith) (λ (a : Q k). let l : k ≤ y = q.1 k a in omega arith) e,
)

pub most_some : (P : ℕ → Type 0) (o : Option ℕ) → IsMost P o → IsTrue (is_some o) ↔ ((k : ℕ) × P k)
most_some P None most = ((λ e. absurd (let f : false ≡ true = e in cc)), (λ t. absurd (most t.0 t.1)))
most_some P (Some n) most = ((λ e. (n, most.0)), (λ t. refl))

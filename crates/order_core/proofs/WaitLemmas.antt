-- Which hart waits, and for what.
use Rattle.std.proofs.Common.{◌≡◌, ℕ, ◌+◌, ◌<◌, ◌≤◌, subst, arith, lt_of_not-le}
use mathlib.Core.Logic.{dite}
use native.Mathlib.Decide.{ℕ_discrete, dec_le}
use Rattle.pl_event.specs.Needs.{IsNeed}
use Rattle.order_core.specs.declared.course.Course.{Course}
use Rattle.order_core.specs.Core.{Core, IsMet, IsCursor}
use Rattle.order_core.specs.Waits.{WaitsFor}

module _ (c : Course) (k : Core) (h : ℕ) where
  pub blocked : (u need : ℕ) → WaitsFor c k h u need → IsMet c (k.seen h) h (k.progress h + 1) → ⊥
  blocked u need w met =
      let le : need ≤ k.seen h u = met u need (k.progress h + 1) w.needs (omega arith) in
      let lt : k.seen h u < need = w.unseen in
      omega arith

  pub free : IsCursor c (k.written h) (k.seen h) h (k.progress h) → ((u need : ℕ) → WaitsFor c k h u need → ⊥) → IsMet c (k.seen h) h (k.progress h + 1)
  free told none u n j need le = dite (ℕ_discrete j (k.progress h + 1))
      (λ e. dite (dec_le n (k.seen h u)) (λ l. l)
      (λ no. absurd (none u n (record { told = told; needs = subst (λ (z : ℕ). IsNeed c.log.lines u n h z) e need; unseen = lt_of_not-le no }))))
      (λ ne. let o : j ≡ k.progress h + 1 → ⊥ = ne in told.passed.1 u n j need (omega arith))

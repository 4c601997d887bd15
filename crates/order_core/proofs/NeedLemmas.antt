-- The needs of the next record, beside what its hart has seen.
use Rattle.std.proofs.Common.{◌≡◌, ℕ, zero, suc, ◌+◌, ◌<◌, ◌≤◌, List, Option, Some, None, slice_index, slice_index_or, refl, sym, ◌∙◌, subst, arith}
use mathlib.Core.Logic.{dite}
use native.Mathlib.Decide.{ℕ_discrete}
use Rattle.pl_event.specs.declared.log.Line.{Line}
use Rattle.pl_event.specs.Needs.{IsNeed, need_of, needs_of}
use Rattle.order_core.specs.declared.course.Course.{Course}
use Rattle.order_core.specs.Core.{IsMet}
use Rattle.order_core.specs.inner.Needs.{IsSeen, AreSeen}
use Rattle.order_core.proofs.Known.{Known}

need_at : (lines : List Line) (h m u : ℕ) → u < 8 → slice_index_or (needs_of lines h m) u None ≡ need_of lines u h m
need_at lines h m zero l = refl
need_at lines h m (suc zero) l = refl
need_at lines h m (suc (suc zero)) l = refl
need_at lines h m (suc (suc (suc zero))) l = refl
need_at lines h m (suc (suc (suc (suc zero)))) l = refl
need_at lines h m (suc (suc (suc (suc (suc zero))))) l = refl
need_at lines h m (suc (suc (suc (suc (suc (suc zero)))))) l = refl
need_at lines h m (suc (suc (suc (suc (suc (suc (suc zero))))))) l = refl
need_at lines h m (suc (suc (suc (suc (suc (suc (suc (suc u)))))))) l = absurd (omega arith)

module _ (c : Course) (k : Known c) (seen : List ℕ) (h m : ℕ) where
  pub met_more : AreSeen (needs_of c.log.lines h (m + 1)) seen → IsMet c (slice_index seen) h m → IsMet c (slice_index seen) h (m + 1)
  met_more are met u n j need le = dite (ℕ_discrete j (m + 1))
      (λ e. let low : u < c.log.harts = k.needs u n h j need in
      let eight : c.log.harts ≤ 8 = k.harts in
      let here : need_of c.log.lines u h (m + 1) ≡ Some n = subst (λ (z : ℕ). IsNeed c.log.lines u n h z) e need in
      subst (λ (z : Option ℕ). IsSeen z (slice_index seen u)) (need_at c.log.lines h (m + 1) u (omega arith) ∙ here) (are u (omega arith)))
      (λ ne. met u n j need (let o : j ≡ m + 1 → ⊥ = ne in omega arith))

  pub met_less : (j : ℕ) → m + 1 ≤ j → IsMet c (slice_index seen) h j → AreSeen (needs_of c.log.lines h (m + 1)) seen
  met_less j le met u low = subst (λ (z : Option ℕ). IsSeen z (slice_index seen u)) (sym (need_at c.log.lines h (m + 1) u low)) (by (need_of c.log.lines u h (m + 1)) refl)
    where
      by : (o : Option ℕ) → need_of c.log.lines u h (m + 1) ≡ o → IsSeen o (slice_index seen u)
      by None e = tt
      by (Some n) e = met u n (m + 1) e le

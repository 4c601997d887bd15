-- What is kept at the start.
use Rattle.std.proofs.Common.{◌≡◌, ℕ, zero, suc, ◌+◌, ◌≤◌, true, List, [], ◌∷◌, slice_index, refl, sym, ◌∙◌, arith}
use Rattle.order_core.specs.declared.course.Course.{Course}
use Rattle.order_core.specs.declared.course.Operation.{Operation}
use Rattle.order_core.specs.declared.place.Place.{Place}
use Rattle.order_core.specs.declared.state.HartState.{HartState}
use Rattle.order_core.specs.Course.{Planned, At, course_of, length_of}
use Rattle.order_core.specs.Core.{opening_core}
use Rattle.order_core.specs.Counts.{writes_before}
use Rattle.order_core.specs.Lawful.{IsName}
use Rattle.order_core.specs.inner.Places.{place}
use Rattle.order_core.specs.States.{hart_in, core_in}
use Rattle.order_core.specs.inner.Kept.{IsKept, IsFresh}
use Rattle.order_core.proofs.Counts.{first_record}
use Rattle.order_core.proofs.Known.{Known}
use Rattle.order_core.proofs.Walks.{names, short}

abbrev eight_zeros : List ℕ
eight_zeros = 0 ∷ 0 ∷ 0 ∷ 0 ∷ 0 ∷ 0 ∷ 0 ∷ 0 ∷ []

zero_at : (u : ℕ) → slice_index eight_zeros u ≡ 0
zero_at zero = refl
zero_at (suc zero) = refl
zero_at (suc (suc zero)) = refl
zero_at (suc (suc (suc zero))) = refl
zero_at (suc (suc (suc (suc zero)))) = refl
zero_at (suc (suc (suc (suc (suc zero))))) = refl
zero_at (suc (suc (suc (suc (suc (suc zero)))))) = refl
zero_at (suc (suc (suc (suc (suc (suc (suc zero))))))) = refl
zero_at (suc (suc (suc (suc (suc (suc (suc (suc u)))))))) = refl

abbrev pub starting : Place → HartState
starting next = record { progress = 0; written = 0; next = next; met = 0; seen = eight_zeros }

pub starts_fresh : (next : Place) → IsFresh (starting next)
starts_fresh next = (refl, refl, zero_at)

module _ (plan : Planned) (k : Known (course_of plan)) where
  abbrev c : Course
  c = course_of plan

  pub starts_kept : (h : ℕ) (next : Place) → 1 ≤ next.number → place next.number next.op ≤ place (length_of c h + 1) 0 → writes_before c h next.number next.op ≡ writes_before c h 1 0
      → (next.number ≤ length_of c h → (p : ℕ) × (a : Operation) × At c p a × IsName h next.number next.op a × (a.what.write ≡ true)) → IsKept c h (starting next)
  starts_kept h next from within count there = record {
    eight = refl;
    met_low = omega arith;
    met = λ u n j need le. absurd (k.first u n h j le need);
    from_one = from;
    within = within;
    count = sym (count ∙ first_record c (names plan k) (short plan k) (λ p a at. (k.inside p a at).from_one) h);
    there = there;
  }

  pub opens_core : (harts : List HartState) (words : List ℕ) → ((h : ℕ) → IsFresh (hart_in harts h)) → words ≡ plan.opening → core_in harts words ≡ opening_core c
  opens_core harts words fresh is = λ i. record {
    written = λ h. (fresh h).0 i;
    progress = λ h. (fresh h).1 i;
    seen = λ h u. (fresh h).2 u i;
    word = slice_index (is i);
  }

-- The last line of a log, and the lines before it.
use Rattle.std.proofs.Common.{◌≡◌, ℕ, ◌+◌, ◌<◌, ◌⊎◌, inl, inr, ◌++◌, List, [], ◌∷◌, length, refl, sym, ap, ◌∙◌, arith, length-append}
use mathlib.Core.Option.{some-injective}
use mathlib.Core.Logic.{dite}
use native.Mathlib.Decide.{ℕ_discrete}
use lib.ListN.{get_elem?}
use Rattle.pl_event.specs.declared.log.Line.{Line}
use Rattle.pl_event.specs.declared.log.Record.{Record}
use Rattle.pl_event.specs.Heads.{IsNext}
use Rattle.pl_event.specs.Numbers.{hart_of}
use Rattle.pl_event.specs.Records.{records_before, IsRecord}
use Rattle.pl_event.proofs.Growth.{record_back}
use Rattle.pl_event.proofs.Places.{inside}
use Rattle.log_clocks.proofs.Grown.{before_same, at_end}
use Rattle.arc_reduce.specs.Reduction.{records_in}

module _ (g : List Line) (x : Line) where
  abbrev pub number : ℕ
  number = records_before (hart_of x.what) g (length g) + 1

  pub longer : length (g ++ x ∷ []) ≡ length g + 1
  longer = length-append g (x ∷ [])

  pub last_record : IsRecord (g ++ x ∷ []) (length g) (hart_of x.what) number x
  last_record = record { at = at_end g x; hart = refl; number = ap (λ (z : ℕ). z + 1) (before_same g (x ∷ []) (hart_of x.what) (length g) (omega arith)) }

  pub next_line : IsNext (g ++ x ∷ []) (length g) (hart_of x.what) x
  next_line = record { at = at_end g x; hart = refl; number = refl }

  -- a record of the log is the last one, or one of those before it
  pub either : (i h m : ℕ) (l : Line) → IsRecord (g ++ x ∷ []) i h m l
      → ((i < length g) × IsRecord g i h m l) ⊎ ((i ≡ length g) × (l ≡ x) × (h ≡ hart_of x.what) × (m ≡ number))
  either i h m l is = dite (ℕ_discrete i (length g))
      (λ e. let same : l ≡ x = some-injective l x (sym is.at ∙ (ap (get_elem? (g ++ x ∷ [])) e ∙ at_end g x)) in
      let own : h ≡ hart_of x.what = sym is.hart ∙ ap (λ (z : Line). hart_of z.what) same in
      inr (
        e,
        same,
        own,
        sym is.number ∙ (ap (λ (z : ℕ). records_before z (g ++ x ∷ []) i + 1) own ∙ (ap (λ (z : ℕ). records_before (hart_of x.what) (g ++ x ∷ []) z + 1) e
            ∙ ap (λ (z : ℕ). z + 1) (before_same g (x ∷ []) (hart_of x.what) (length g) (omega arith)))),
      ))
      (λ ne. let in_all : i < length (g ++ x ∷ []) = inside (g ++ x ∷ []) i l is.at in
      let long : length (g ++ x ∷ []) ≡ length g + 1 = longer in
      let o : i ≡ length g → ⊥ = ne in
      let low : i < length g = omega arith in
      inl (low, record_back g (x ∷ []) i h m l low is))

pub records_more : (g f : List Line) (x y : Line) → records_in g ≡ records_in f → x.what ≡ y.what → records_in (g ++ x ∷ []) ≡ records_in (f ++ y ∷ [])
records_more g f x y same last = joined g x ∙ ((λ d. same d ++ last d ∷ []) ∙ sym (joined f y))
  where
    joined : (g : List Line) (x : Line) → records_in (g ++ x ∷ []) ≡ records_in g ++ x.what ∷ []
    joined [] x = refl
    joined (a ∷ g) x = ap (λ (z : List Record). a.what ∷ z) (joined g x)

-- A log has one first unordered pair at most, and an ordered log has none.
use Rattle.std.proofs.Common.{◌≡◌, ℕ, ◌+◌, ◌<◌, inl, inr, List, sym, subst, ◌∙◌, arith}
use Rattle.std.proofs.lemmas.Bool.{cases_lt}
use mathlib.Core.Option.{some-injective}
use Rattle.pl_event.specs.declared.event.Event.{Event}
use Rattle.pl_event.specs.declared.log.Line.{Line}
use Rattle.pl_event.specs.declared.log.Log.{Log}
use Rattle.pl_event.specs.declared.log.Record.TheVariants as entry
use Rattle.pl_event.specs.Conflicts.{IsPair, IsOrdered, AreOrdered}
use Rattle.pl_event.specs.Records.{records_before, IsEvent}
use Rattle.pl_event.specs.Unordered.{IsUnordered, IsOrderedPair, IsFirstUnordered}
use Rattle.pl_event.proofs.Places.{inside}

not_both : (size : ℕ) (lines : List Line) (a : Event) (n : ℕ) (b : Event) (m : ℕ) → IsUnordered size lines a n b m → IsOrderedPair size lines a n b m → ⊥
not_both size lines a n b m (inl t) ordered = t.1 (ordered.accesses t.0)
not_both size lines a n b m (inr t) ordered = t.1 (ordered.alerts t.0)

pair_of : (size : ℕ) (lines : List Line) (upto i j : ℕ) (a : Event) (n : ℕ) (b : Event) (m : ℕ) → AreOrdered size lines upto → j < upto → IsPair lines i j a n b m → IsOrderedPair size lines a n b m
pair_of size lines upto i j a n b m ordered low pair = record { accesses = ordered.accesses i j a n b m low pair; alerts = ordered.alerts i j a n b m low pair }

pub none : (log : Log) (i j : ℕ) (a : Event) (n : ℕ) (b : Event) (m : ℕ) → IsOrdered log → IsFirstUnordered log i j a n b m → ⊥
none log i j a n b m ordered first =
    not_both log.block log.lines a n b m first.unordered (pair_of log.block log.lines _ i j a n b m ordered (inside log.lines j first.pair.second.0 first.pair.second.1.at) first.pair)

-- at one position is one event, with one number
same_event : (lines : List Line) (i : ℕ) (a : Event) (n : ℕ) (b : Event) (m : ℕ) → IsEvent lines i n a → IsEvent lines i m b → (a ≡ b) × (n ≡ m)
same_event lines i a n b m x y =
    let line : x.0 ≡ y.0 = some-injective x.0 y.0 (sym x.1.at ∙ y.1.at) in
    let what : entry.Event a ≡ entry.Event b = sym x.2 ∙ ((λ t. (line t).what) ∙ y.2) in
    let same : a ≡ b = event_in what in
    (same, sym x.1.number ∙ ((λ t. records_before (same t).hart lines i + 1) ∙ y.1.number))
  where
    event_in : {a b : Event} → entry.Event a ≡ entry.Event b → a ≡ b
    event_in e = cc

module _ (log : Log) (i j : ℕ) (a : Event) (n : ℕ) (b : Event) (m : ℕ) (p : IsFirstUnordered log i j a n b m) where
  -- no unordered pair ends before it, and none that ends with it begins before it
  not_later : (k l : ℕ) (c : Event) (x : ℕ) (d : Event) (y : ℕ) → IsFirstUnordered log k l c x d y → l < j → ⊥
  not_later k l c x d y q low = not_both log.block log.lines c x d y q.unordered (pair_of log.block log.lines j k l c x d y p.later low q.pair)

  not_earlier : (k l : ℕ) (c : Event) (x : ℕ) (d : Event) (y : ℕ) → IsFirstUnordered log k l c x d y → l ≡ j → k < i → ⊥
  not_earlier k l c x d y q at low =
      let second : IsEvent log.lines j y d = subst (λ (z : ℕ). IsEvent log.lines z y d) at q.pair.second in
      let same = same_event log.lines j d y b m second p.pair.second in
      let pair : IsPair log.lines k j c x d y = subst (λ (z : ℕ). IsPair log.lines k z c x d y) at q.pair in
      not_both log.block log.lines c x b m (subst (λ (z : Event × ℕ). IsUnordered log.block log.lines c x z.0 z.1) (λ t. (same.0 t, same.1 t)) q.unordered)
      (p.earlier k c x low (subst (λ (z : Event × ℕ). IsPair log.lines k j c x z.0 z.1) (λ t. (same.0 t, same.1 t)) pair))

pub one : (log : Log) (i j : ℕ) (a : Event) (n : ℕ) (b : Event) (m : ℕ) (k l : ℕ) (c : Event) (x : ℕ) (d : Event) (y : ℕ)
    → IsFirstUnordered log i j a n b m → IsFirstUnordered log k l c x d y → (a ≡ c) × (n ≡ x) × (b ≡ d) × (m ≡ y)
one log i j a n b m k l c x d y p q =
    let ends : j ≡ l = equal (not_later log i j a n b m p k l c x d y q) (not_later log k l c x d y q i j a n b m p) in
    let begins : i ≡ k = equal (not_earlier log i j a n b m p k l c x d y q (sym ends)) (not_earlier log k l c x d y q i j a n b m p ends) in
    let first = same_event log.lines i a n c x p.pair.first (subst (λ (z : ℕ). IsEvent log.lines z x c) (sym begins) q.pair.first) in
    let second = same_event log.lines j b m d y p.pair.second (subst (λ (z : ℕ). IsEvent log.lines z y d) (sym ends) q.pair.second) in
    (first.0, first.1, second.0, second.1)
  where
    equal : {s t : ℕ} → (t < s → ⊥) → (s < t → ⊥) → s ≡ t
    equal {s} {t} less more = elim (cases_lt t s) [
      | inl low ↦ absurd (less low)
      | inr high ↦ elim (cases_lt s t) [ inl low ↦ absurd (more low) | inr back ↦ omega (arith, high, back) ]
    ]

-- The least number of a source, register by register.
use Rattle.std.proofs.Common.{◌≡◌, ◌≢◌, ℕ, inl, inr, List, Option, Some, None, IfSome, ◌↔◌, refl, arith, sym, ap, ◌∙◌, subst}
use Rattle.std.specs.Int.{bit_at}
use Rattle.std.proofs.lemmas.Bool.{cases_eq, cases_lt}
use Rattle.std.proofs.lemmas.Nat.Bits.{bit_at-zero}
use Rattle.std.proofs.Math.Nat.{min-le_left, min-le_right, min-eq_left, min-eq_right}
use Rattle.inherit_track.specs.declared.state.Held.{Held}
use Rattle.inherit_track.specs.declared.state.RegState.{RegState}
use Rattle.inherit_track.specs.declared.state.RegState.TheVariants as reg
use Rattle.inherit_track.specs.States.{state_in, HoldsSome, IsOldest}
use Rattle.inherit_track.specs.inner.Held.{held_bits}
use Rattle.inherit_track.specs.inner.Oldest.{older_of, IsOldestBut}
use Rattle.inherit_track.proofs.HeldLemmas.{held_not_in}
use Rattle.inherit_track.proofs.RegisterLemmas.{known-ne-held, held_same}

pub none_yet : (states : List RegState) (held : ℕ) → held ≡ held_bits states → IsOldestBut held states None
none_yet states held is r from none e = held_not_in states held r from is none e

module _ (left next n : ℕ) (states : List RegState) (kept : (i : ℕ) → i ≢ n → bit_at next i ≡ bit_at left i) where
  outside : (r : ℕ) → bit_at next r ≡ 0 → r ≢ n → bit_at left r ≡ 0
  outside r none other = sym (kept r other) ∙ none

  step : (least : Option ℕ) (s : RegState) → state_in states n ≡ s → IsOldestBut left states least → IsOldestBut next states (older_of least s)
  step None (reg.Known mask) is below = λ r from none e. elim (cases_eq r n) [
    | inl same ↦ known-ne-held mask from (sym is ∙ subst (λ (k : ℕ). state_in states k ≡ reg.Held from) same e)
    | inr other ↦ below r from (outside r none other) e
  ]
  step (Some number) (reg.Known mask) is below = (
    below.0,
    λ r from none e. elim (cases_eq r n) [
      | inl same ↦ absurd (known-ne-held mask from (sym is ∙ subst (λ (k : ℕ). state_in states k ≡ reg.Held from) same e))
      | inr other ↦ below.1 r from (outside r none other) e
    ],
  )
  step None (reg.Held held) is below = (
    (n, held, is, refl),
    λ r from none e. elim (cases_eq r n) [
      | inl same ↦
          let own : held ≡ from = held_same held from (sym is ∙ subst (λ (k : ℕ). state_in states k ≡ reg.Held from) same e) in
          let number : held.number ≡ from.number = ap (λ (h : Held). h.number) own in
          omega arith
      | inr other ↦ absurd (below r from (outside r none other) e)
    ],
  )
  step (Some number) (reg.Held held) is below = (
    elim (cases_lt number held.number) [
      | inl lt ↦ (below.0.0, below.0.1, below.0.2, below.0.3 ∙ sym (min-eq_left (omega arith)))
      | inr ge ↦ (n, held, is, sym (min-eq_right ge))
    ],
    λ r from none e. elim (cases_eq r n) [
      | inl same ↦
          let own : held ≡ from = held_same held from (sym is ∙ subst (λ (k : ℕ). state_in states k ≡ reg.Held from) same e) in
          let same_number : held.number ≡ from.number = ap (λ (h : Held). h.number) own in
          omega (arith, min-le_right number held.number)
      | inr other ↦ let le = below.1 r from (outside r none other) e in omega (arith, min-le_left number held.number)
    ],
  )

  pub older_next : (least : Option ℕ) → IsOldestBut left states least → IsOldestBut next states (older_of least (state_in states n))
  older_next least below = step least (state_in states n) refl below

abbrev HasNone : Option ℕ → Type 0
HasNone None = Unit {0}
HasNone (Some number) = ⊥

pub oldest_none : (states : List RegState) (least : Option ℕ) → IsOldestBut 0 states least → (least ≡ None) ↔ (HoldsSome states → ⊥)
oldest_none states None below = (λ e held. below held.0 held.1 (bit_at-zero held.0) held.2, λ no. refl)
oldest_none states (Some number) below = (
  λ e held. subst HasNone (sym e) tt,
  λ no. absurd (no (below.0.0, below.0.1, below.0.2)),
)

pub oldest_least : (states : List RegState) (least : Option ℕ) → IsOldestBut 0 states least → IfSome least (λ number. IsOldest states number)
oldest_least states None below = tt
oldest_least states (Some number) below = record {
  held = below.0;
  least = λ r from e. below.1 r from (bit_at-zero r) e;
}

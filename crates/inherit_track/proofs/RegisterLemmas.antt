-- Registers by number, and states told apart.
use Rattle.std.proofs.Common.{◌≡◌, ◌≢◌, ℕ, ◌<◌, ◌≤◌, inl, inr, List, length, slice_set, refl, arith, sym, ap, ◌∙◌, subst}
use Rattle.std.proofs.lemmas.Bool.{cases_eq}
use Rattle.std.proofs.lemmas.List.{get_or-replicate, get_or_past, get_or-set_same, get_or-set_other}
use mathlib.Core.Logic.{dite}
use native.Mathlib.Decide.{dec_lt}
use Rattle.inherit_track.specs.declared.state.Held.{Held}
use Rattle.inherit_track.specs.declared.state.RegState.{RegState}
use Rattle.inherit_track.specs.declared.state.RegState.TheVariants as reg
use Rattle.inherit_track.specs.States.{state_in, all_clear, IsInRange, AreSound}

abbrev IsKnown : RegState → Type 0
IsKnown (reg.Known mask) = Unit {0}
IsKnown (reg.Held from) = ⊥

pub known-ne-held : (mask : ℕ) (from : Held) → reg.Known mask ≢ reg.Held from
known-ne-held mask from e = subst IsKnown e tt

abbrev source_or : Held → RegState → Held
source_or other (reg.Known mask) = other
source_or other (reg.Held from) = from

pub held_same : (a b : Held) → reg.Held a ≡ reg.Held b → a ≡ b
held_same a b e = ap (source_or a) e

-- there are 34 registers: the others are no registers, and known
pub past : (states : List RegState) → length states ≡ 34 → (r : ℕ) → 34 ≤ r → state_in states r ≡ reg.Known 0
past states long r le = get_or_past states r (reg.Known 0) (omega arith)

pub past_held : (states : List RegState) → length states ≡ 34 → (r : ℕ) (from : Held) → state_in states r ≡ reg.Held from → r < 34
past_held states long r from is = dite (dec_lt r 34) (λ lt. lt) (λ no. absurd (known-ne-held 0 from (sym (past states long r (omega arith)) ∙ is)))

pub clear_in : (r : ℕ) → state_in all_clear r ≡ reg.Known 0
clear_in r = dite (dec_lt r 34) (λ lt. get_or-replicate 34 r (reg.Known 0) (reg.Known 0) lt) (λ no. past all_clear refl r (omega arith))

pub clear_sound : AreSound all_clear
clear_sound = record { zero = refl; range = λ r. subst IsInRange (sym (clear_in r)) (let lt : 0 < 16 = omega arith in lt) }

-- a register other than 0 is set, in range
pub sound_set : (states : List RegState) (r : ℕ) (x : RegState) → r < length states → r ≢ 0 → IsInRange x → AreSound states → AreSound (slice_set states r x)
sound_set states r x lt some range sound = record {
  zero = get_or-set_other states r 0 x (reg.Known 0) (λ e. some (sym e)) ∙ sound.zero;
  range = λ k. elim (cases_eq k r) [
    | inl same ↦ subst (λ (i : ℕ). IsInRange (state_in (slice_set states r x) i)) (sym same) (subst IsInRange (sym (get_or-set_same states r x (reg.Known 0) lt)) range)
    | inr other ↦ subst IsInRange (sym (get_or-set_other states r k x (reg.Known 0) other)) (sound.range k)
  ];
}

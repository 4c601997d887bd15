-- A source resolved register by register.
use Rattle.std.proofs.Common.{◌≡◌, ◌≢◌, ℕ, ◌<◌, ◌^◌, Bool, true, false, cond, true≢false, inl, inr, List, length, slice_set, refl, arith, sym, ap, ◌∙◌, subst}
use Rattle.std.specs.Int.{bit_at}
use Rattle.std.proofs.lemmas.Bool.{cases_eq}
use Rattle.std.proofs.lemmas.List.{get_or-set_same, get_or-set_other, length-set}
use Rattle.std.proofs.lemmas.Nat.Bits.{bit_at-zero}
use Rattle.inherit_track.specs.declared.state.Held.{Held}
use Rattle.inherit_track.specs.declared.state.RegState.{RegState}
use Rattle.inherit_track.specs.declared.state.RegState.TheVariants as reg
use Rattle.inherit_track.specs.States.{state_in, AreSound, IsInRange, IsResolved}
use Rattle.inherit_track.specs.inner.Held.{is_held, held_bits}
use Rattle.inherit_track.proofs.HeldLemmas.{held_few, held_not_in, held_set, flag_at}
use Rattle.inherit_track.proofs.RegisterLemmas.{known-ne-held}

-- the registers outside a set are resolved, those in it are as they were
pub record IsResolvedBut (left : ℕ) (from : Held) (mask : ℕ) (old new : List RegState) (set : ℕ) : Type 0 where
  pub known : (r : ℕ) → bit_at left r ≡ 0 → state_in old r ≡ reg.Held from → state_in new r ≡ reg.Known mask
  pub others : (r : ℕ) → state_in old r ≢ reg.Held from → state_in new r ≡ state_in old r
  pub rest : (r : ℕ) → bit_at left r ≡ 1 → state_in new r ≡ state_in old r
  pub few : left < 2 ^ 34
  pub long : length new ≡ 34
  pub sound : AreSound new
  pub held : set ≡ held_bits new

pub resolved_none : (from : Held) (mask : ℕ) (states : List RegState) (held : ℕ) → length states ≡ 34 → AreSound states → held ≡ held_bits states → IsResolvedBut held from mask states states held
resolved_none from mask states held long sound is = record {
  known = λ r none e. absurd (held_not_in states held r from is none e);
  others = λ r no. refl;
  rest = λ r one. refl;
  few = subst (λ (n : ℕ). n < 2 ^ 34) (sym is) (held_few states long);
  long = long;
  sound = sound;
  held = is;
}

module _ (left next n : ℕ) (from : Held) (mask : ℕ) (old new : List RegState) (held : ℕ) (done : IsResolvedBut left from mask old new held) (inside : n < 34) (one : bit_at left n ≡ 1)
    (gone : bit_at next n ≡ 0) (kept : (i : ℕ) → i ≢ n → bit_at next i ≡ bit_at left i) (less : next < left)
    (x : RegState) (is : state_in new n ≡ reg.Held from → x ≡ reg.Known mask) (not : state_in new n ≢ reg.Held from → x ≡ state_in new n) (range : IsInRange x) where
  here : state_in (slice_set new n x) n ≡ x
  here = get_or-set_same new n x (reg.Known 0) (let long = done.long in omega arith)

  there : (r : ℕ) → r ≢ n → state_in (slice_set new n x) r ≡ state_in new r
  there r other = get_or-set_other new n r x (reg.Known 0) other

  same_here : state_in new n ≡ state_in old n
  same_here = done.rest n one

  zero_next : state_in (slice_set new n x) 0 ≡ reg.Known 0
  zero_next = elim (cases_eq 0 n) [
    | inl same ↦
        let clear : state_in new n ≡ reg.Known 0 = subst (λ (k : ℕ). state_in new k ≡ reg.Known 0) same done.sound.zero in
        subst (λ (k : ℕ). state_in (slice_set new n x) k ≡ reg.Known 0) (sym same) (here ∙ not (λ h. known-ne-held 0 from (sym clear ∙ h)) ∙ clear)
    | inr other ↦ there 0 other ∙ done.sound.zero
  ]

  range_next : (r : ℕ) → IsInRange (state_in (slice_set new n x) r)
  range_next r = elim (cases_eq r n) [
    | inl same ↦ subst (λ (k : ℕ). IsInRange (state_in (slice_set new n x) k)) (sym same) (subst IsInRange (sym here) range)
    | inr other ↦ subst IsInRange (sym (there r other)) (done.sound.range r)
  ]

  pub resolved_next : (set : ℕ) → set ≡ held_bits (slice_set new n x) → IsResolvedBut next from mask old (slice_set new n x) set
  resolved_next set set_is = record {
    known = λ r none e. elim (cases_eq r n) [
      | inl same ↦ subst (λ (k : ℕ). state_in (slice_set new n x) k ≡ reg.Known mask) (sym same)
          (here ∙ is (same_here ∙ subst (λ (k : ℕ). state_in old k ≡ reg.Held from) same e))
      | inr other ↦ there r other ∙ done.known r (sym (kept r other) ∙ none) e
    ];
    others = λ r e. elim (cases_eq r n) [
      | inl same ↦ subst (λ (k : ℕ). state_in (slice_set new n x) k ≡ state_in old k) (sym same)
          (here ∙ not (λ h. e (subst (λ (k : ℕ). state_in old k ≡ reg.Held from) (sym same) (sym same_here ∙ h))) ∙ same_here)
      | inr other ↦ there r other ∙ done.others r e
    ];
    rest = λ r in_next. elim (cases_eq r n) [
      | inl same ↦ let none : bit_at next r ≡ 0 = ap (λ (k : ℕ). bit_at next k) same ∙ gone in absurd (omega (arith, in_next, none))
      | inr other ↦ there r other ∙ done.rest r (sym (kept r other) ∙ in_next)
    ];
    few = (let few = done.few in omega (arith, few, less));
    long = length-set new n x ∙ done.long;
    sound = record { zero = zero_next; range = range_next };
    held = set_is;
  }

  bits_here : (r : ℕ) → bit_at held r ≡ bit_at (held_bits new) r
  bits_here r = ap (λ (s : ℕ). bit_at s r) done.held

  -- a register that is still held is as it was
  pub held_still : is_held x ≡ true → held ≡ held_bits (slice_set new n x)
  held_still still =
      let as_before : x ≡ state_in new n = not (λ h.
      let lost : is_held x ≡ false = ap is_held (is h) in true≢false (sym still ∙ lost)) in
      held_set new n x held (let long = done.long in omega arith)
      (bits_here n ∙ (flag_at new n ∙ ap (λ (s : RegState). cond (is_held s) 1 0) (sym as_before)))
      (λ i other. bits_here i)

  pub held_no_more : is_held x ≡ false → (set : ℕ) → bit_at set n ≡ 0 → ((i : ℕ) → i ≢ n → bit_at set i ≡ bit_at held i) → set ≡ held_bits (slice_set new n x)
  held_no_more lost set none others = held_set new n x set (let long = done.long in omega arith)
      (none ∙ sym (ap (λ (b : Bool). cond b 1 0) lost))
      (λ i other. others i other ∙ bits_here i)

pub resolved_all : (from : Held) (mask : ℕ) (old new : List RegState) (held : ℕ) → IsResolvedBut 0 from mask old new held → IsResolved from mask (state_in old) (state_in new)
resolved_all from mask old new held done = record {
  known = λ r e. done.known r (bit_at-zero r) e;
  others = done.others;
}

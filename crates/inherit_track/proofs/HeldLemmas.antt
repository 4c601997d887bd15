-- The set of the registers that are held.
use Rattle.std.proofs.Common.{◌≡◌, ◌≢◌, ℕ, ◌<◌, ◌≤◌, ◌^◌, ◌%◌, ◌*◌, inl, inr, Bool, false, cond, List, map, length, slice_set, arith, sym, ap, ◌∙◌, subst, lt_of_not-le, bit_and, w64}
use Rattle.std.specs.Int.{bit_at, bit_not}
use Rattle.std.proofs.lemmas.Bool.{cases_eq}
use Rattle.std.proofs.lemmas.List.{get_or-map, get_or_past, get_or-set_same, get_or-set_other, length-map}
use Rattle.std.proofs.lemmas.Nat.{and_le_l}
use Rattle.std.proofs.lemmas.Nat.Bits.{bit_at_above, bit_at_clear_same, bit_at_clear_other, same_from_bits}
use Rattle.std.proofs.lemmas.Simd.{bit_mask_l, mask_l-lt}
use mathlib.Core.Logic.{dite}
use native.Mathlib.Decide.{dec_lt, dec_le}
use Rattle.inherit_track.specs.declared.state.Held.{Held}
use Rattle.inherit_track.specs.declared.state.RegState.{RegState}
use Rattle.inherit_track.specs.declared.state.RegState.TheVariants as reg
use Rattle.inherit_track.specs.States.{state_in}
use Rattle.inherit_track.specs.inner.Held.{is_held, held_bits}

-- ---- sets

-- a register of a set below 2^n is below n
pub bit_below : (set r n : ℕ) → bit_at set r ≡ 1 → set < 2 ^ n → r < n
bit_below set r n is lt = dite (dec_le n r) (λ le. let none : bit_at set r ≡ 0 = bit_at_above set n r lt le in absurd (omega (arith, is, none))) (λ no. lt_of_not-le no)

-- a set without a register of its own is less
pub without_less : (set r : ℕ) → r < 64 → bit_at set r ≡ 1 → bit_and set (bit_not w64 (1 * 2 ^ r % 2 ^ 64)) < set
without_less set r lt is =
    let le = and_le_l set (bit_not w64 (1 * 2 ^ r % 2 ^ 64)) in
    let none : bit_at (bit_and set (bit_not w64 (1 * 2 ^ r % 2 ^ 64))) r ≡ 0 = bit_at_clear_same w64 set r lt in
    elim (cases_eq (bit_and set (bit_not w64 (1 * 2 ^ r % 2 ^ 64))) set) [
      | inl same ↦ let zero_is : bit_at set r ≡ 0 = subst (λ (s : ℕ). bit_at s r ≡ 0) same none in absurd (omega (arith, is, zero_is))
      | inr other ↦ omega (arith, le, other)
    ]

-- the other registers stay
pub without_others : (set r i : ℕ) → set < 2 ^ 64 → r < 64 → i ≢ r → bit_at (bit_and set (bit_not w64 (1 * 2 ^ r % 2 ^ 64))) i ≡ bit_at set i
without_others set r i small lt other = dite (dec_lt i 64)
    (λ within. bit_at_clear_other w64 set r lt i within other)
    (λ no.
    let le = and_le_l set (bit_not w64 (1 * 2 ^ r % 2 ^ 64)) in
    let above : 64 ≤ i = omega arith in
    bit_at_above (bit_and set (bit_not w64 (1 * 2 ^ r % 2 ^ 64))) 64 i (omega (arith, le, small)) above ∙ sym (bit_at_above set 64 i small above))

-- ---- the registers that are held

abbrev flag : Bool → ℕ
flag b = cond b 1 0

-- the bit of a register
pub flag_at : (states : List RegState) (r : ℕ) → bit_at (held_bits states) r ≡ cond (is_held (state_in states r)) 1 0
flag_at states r = bit_mask_l (map is_held states) r ∙ ap flag (dite (dec_lt r (length states))
    (λ lt. get_or-map is_held states r (reg.Known 0) false lt)
    (λ no.
    let past : length states ≤ r = omega arith in
    get_or_past (map is_held states) r false (omega (arith, length-map states is_held, past)) ∙ sym (ap is_held (get_or_past states r (reg.Known 0) past))))

pub held_in : (states : List RegState) (r : ℕ) (from : Held) → state_in states r ≡ reg.Held from → bit_at (held_bits states) r ≡ 1
held_in states r from is = flag_at states r ∙ ap (λ (s : RegState). flag (is_held s)) is

pub held_few : (states : List RegState) → length states ≡ 34 → held_bits states < 2 ^ 34
held_few states long = subst (λ (n : ℕ). held_bits states < 2 ^ n) (length-map states is_held ∙ long) (mask_l-lt (map is_held states))

-- one register's state is set, and its bit
pub held_set : (states : List RegState) (r : ℕ) (x : RegState) (set : ℕ) → r < length states → bit_at set r ≡ cond (is_held x) 1 0
    → ((i : ℕ) → i ≢ r → bit_at set i ≡ bit_at (held_bits states) i) → set ≡ held_bits (slice_set states r x)
held_set states r x set lt here others = same_from_bits set (held_bits (slice_set states r x)) (λ i. elim (cases_eq i r) [
  | inl same ↦ subst (λ (k : ℕ). bit_at set k ≡ bit_at (held_bits (slice_set states r x)) k) (sym same)
      (here ∙ sym (flag_at (slice_set states r x) r ∙ ap (λ (s : RegState). flag (is_held s)) (get_or-set_same states r x (reg.Known 0) lt)))
  | inr other ↦ others i other ∙ (flag_at states i ∙ sym (flag_at (slice_set states r x) i ∙ ap (λ (s : RegState). flag (is_held s)) (get_or-set_other states r i x (reg.Known 0) other)))
])

-- a register outside the set is not held
pub held_not_in : (states : List RegState) (set r : ℕ) (from : Held) → set ≡ held_bits states → bit_at set r ≡ 0 → state_in states r ≡ reg.Held from → ⊥
held_not_in states set r from same none is =
    let one : bit_at set r ≡ 1 = ap (λ (s : ℕ). bit_at s r) same ∙ held_in states r from is in
    absurd (omega (arith, one, none))

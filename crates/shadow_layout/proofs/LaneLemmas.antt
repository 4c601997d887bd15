-- A load or a store is in one lane, where blocks have four bytes.
use Rattle.std.proofs.Common.{◌≡◌, ◌≢◌, ℕ, ◌+◌, ◌-◌, ◌*◌, ◌/◌, ◌%◌, ◌^◌, ◌<◌, ◌≤◌, Bool, true, false, eqb, refl, sym, ap, ◌∙◌, subst, arith, eq-eqb, ne_eqb, if◌then◌else◌}
use Rattle.std.proofs.Math.Nat.{zero-div}
use mathlib.Core.Logic.{dite}
use native.Mathlib.Decide.{ℕ_discrete}
use Rattle.order_core.specs.Lanes.{lane, covers}
use Rattle.order_core.specs.Shapes.{IsSoundShape}
use Rattle.shadow_frames.specs.Words.{bit, nibble_of}
use Rattle.shadow_frames.proofs.BitLemmas.{set_bit}
use Rattle.shadow_frames.proofs.Sound.{all_covered}
use Rattle.shadow_frames.proofs.Ranges.{off_span}
use Rattle.shadow_frames.specs.Frames.{writes_lanes}
use Rattle.shadow_layout.specs.Operations.{changed_word, lanes_of}
use Rattle.shadow_layout.proofs.NibbleLemmas.{changed_nibble}
use Rattle.shadow_frames.proofs.NibbleLemmas.{nibble_below}

-- a lane is four nibbles
four : (x y : ℕ) → x % 16 ≡ y % 16 → x / 16 % 16 ≡ y / 16 % 16 → x / 16 / 16 % 16 ≡ y / 16 / 16 % 16 → x / 16 / 16 / 16 % 16 ≡ y / 16 / 16 / 16 % 16 → x % 65536 ≡ y % 65536
four x y a b c d = omega arith

over : (x : ℕ) → x / 16 / 16 / 16 / 16 ≡ x / 65536
over x = omega arith

twice : (x : ℕ) → x / 65536 / 65536 ≡ x / 4294967296
twice x = omega arith

thrice : (x : ℕ) → x / 4294967296 / 65536 ≡ x / 281474976710656
thrice x = omega arith

-- the word without its first lane
abbrev up : ℕ → ℕ
up x = x / 16 / 16 / 16 / 16

up_two : (x : ℕ) → up (up x) ≡ x / 4294967296
up_two x = over (up x) ∙ (ap (λ (z : ℕ). z / 65536) (over x) ∙ twice x)

up_three : (x : ℕ) → up (up (up x)) ≡ x / 281474976710656
up_three x = over (up (up x)) ∙ (ap (λ (z : ℕ). z / 65536) (up_two x) ∙ thrice x)

module _ (x y : ℕ) where
  abbrev Same : ℕ → Type 0
  Same k = nibble_of x k ≡ nibble_of y k

  lane_0 : Same 0 → Same 1 → Same 2 → Same 3 → lane 0 x ≡ lane 0 y
  lane_0 a b c d = let e : x / 1 ≡ x = omega arith in let f : y / 1 ≡ y = omega arith in ap (λ (z : ℕ). z % 65536) e ∙ (four x y a b c d ∙ ap (λ (z : ℕ). z % 65536) (sym f))

  lane_1 : Same 4 → Same 5 → Same 6 → Same 7 → lane 1 x ≡ lane 1 y
  lane_1 a b c d = ap (λ (z : ℕ). z % 65536) (sym (over x)) ∙ (four (up x) (up y) a b c d ∙ ap (λ (z : ℕ). z % 65536) (over y))

  lane_2 : Same 8 → Same 9 → Same 10 → Same 11 → lane 2 x ≡ lane 2 y
  lane_2 a b c d = ap (λ (z : ℕ). z % 65536) (sym (up_two x)) ∙ (four (up (up x)) (up (up y)) a b c d ∙ ap (λ (z : ℕ). z % 65536) (up_two y))

  lane_3 : Same 12 → Same 13 → Same 14 → Same 15 → lane 3 x ≡ lane 3 y
  lane_3 a b c d = ap (λ (z : ℕ). z % 65536) (sym (up_three x)) ∙ (four (up (up (up x))) (up (up (up y))) a b c d ∙ ap (λ (z : ℕ). z % 65536) (up_three y))

  same_lane : (j : ℕ) → j < 4 → ((k : ℕ) → k < 16 → k / 4 ≡ j → Same k) → lane j x ≡ lane j y
  same_lane j lt same = dite (ℕ_discrete j 0)
      (λ e. subst (λ (z : ℕ). lane z x ≡ lane z y) (sym e) (lane_0 (same 0 (omega arith) (omega arith)) (same 1 (omega arith) (omega arith)) (same 2 (omega arith) (omega arith)) (same 3 (omega arith) (omega arith))))
      (λ a. dite (ℕ_discrete j 1)
      (λ e. subst (λ (z : ℕ). lane z x ≡ lane z y) (sym e) (lane_1 (same 4 (omega arith) (omega arith)) (same 5 (omega arith) (omega arith)) (same 6 (omega arith) (omega arith)) (same 7 (omega arith) (omega arith))))
      (λ b. dite (ℕ_discrete j 2)
      (λ e. subst (λ (z : ℕ). lane z x ≡ lane z y) (sym e) (lane_2 (same 8 (omega arith) (omega arith)) (same 9 (omega arith) (omega arith)) (same 10 (omega arith) (omega arith)) (same 11 (omega arith) (omega arith))))
      (λ c. let e : j ≡ 3 = omega arith in subst (λ (z : ℕ). lane z x ≡ lane z y) (sym e) (lane_3 (same 12 (omega arith) (omega arith)) (same 13 (omega arith) (omega arith)) (same 14 (omega arith) (omega arith)) (same 15 (omega arith) (omega arith))))))

-- a change of bytes of one lane leaves the others
changed_lane : (f : ℕ → ℕ → ℕ) (addr len x j : ℕ) → addr % 4 + len ≤ 4 → j < 4 → j ≢ addr % 16 / 4 → lane j (changed_word f addr len (addr / 16) x) ≡ lane j x
changed_lane f addr len x j fits lt other = same_lane (changed_word f addr len (addr / 16) x) x j lt (λ k low own.
    changed_nibble f addr len (addr / 16) x k low
    ∙ (ap (λ (b : Bool). (if b then f (16 * (addr / 16) + k - addr) (nibble_of x k) else nibble_of x k) % 16) (off_span addr len (16 * (addr / 16) + k) (λ p q. other (omega arith)))
    ∙ (let l : nibble_of x k < 16 = nibble_below x k in omega arith)))

few_lanes : (k : ℕ) → k < 4 → (1 ≤ 2 ^ k) × (2 ^ k ≤ 15)
few_lanes k lt = dite (ℕ_discrete k 0)
    (λ e. subst (λ (z : ℕ). (1 ≤ 2 ^ z) × (2 ^ z ≤ 15)) (sym e) (omega arith, omega arith))
    (λ a. dite (ℕ_discrete k 1)
    (λ e. subst (λ (z : ℕ). (1 ≤ 2 ^ z) × (2 ^ z ≤ 15)) (sym e) (omega arith, omega arith))
    (λ b. dite (ℕ_discrete k 2)
    (λ e. subst (λ (z : ℕ). (1 ≤ 2 ^ z) × (2 ^ z ≤ 15)) (sym e) (omega arith, omega arith))
    (λ c. let e : k ≡ 3 = omega arith in subst (λ (z : ℕ). (1 ≤ 2 ^ z) × (2 ^ z ≤ 15)) (sym e) (omega arith, omega arith))))

-- a number names its own bit
own_bit : (k : ℕ) → bit (2 ^ k) k ≡ true
own_bit k =
    let sum : 0 + 2 ^ k ≡ 2 ^ k = omega arith in
    ap (λ (z : ℕ). bit z k) (sym sum) ∙ (set_bit 0 k k (ap (λ (z : ℕ). eqb (z % 2) 1) (zero-div (2 ^ k))) ∙ ap (λ (b : Bool). if b then true else bit 0 k) (eq-eqb k k refl))

module _ (size addr : ℕ) where
  wide : size ≢ 4 → lanes_of size addr ≡ 15
  wide n = ap (λ (b : Bool). if b then 2 ^ (addr % 16 / 4) else 15) (ne_eqb size 4 n)

  thin : size ≡ 4 → lanes_of size addr ≡ 2 ^ (addr % 16 / 4)
  thin e = ap (λ (b : Bool). if b then 2 ^ (addr % 16 / 4) else 15) (eq-eqb size 4 e)

  named : (j : ℕ) → j ≡ addr % 16 / 4 → covers (2 ^ (addr % 16 / 4)) j ≡ false → ⊥
  unfolding covers
  named j own off = no_both (bit (2 ^ (addr % 16 / 4)) (addr % 16 / 4)) (own_bit (addr % 16 / 4)) ((λ i. bit (2 ^ (addr % 16 / 4)) (sym own i)) ∙ off)
    where
      no_both : (c : Bool) → c ≡ true → c ≡ false → ⊥
      no_both c t f = cc

  never : (j : ℕ) → j < 4 → covers 15 j ≡ false → ⊥
  never j lt off = no_both (covers 15 j) (all_covered j lt) off
    where
      no_both : (c : Bool) → c ≡ true → c ≡ false → ⊥
      no_both c t f = cc

  some_lanes : (1 ≤ lanes_of size addr) × (lanes_of size addr ≤ 15)
  some_lanes = dite (ℕ_discrete size 4)
      (λ e. (
        subst (λ (z : ℕ). 1 ≤ z) (sym (thin e)) (few_lanes (addr % 16 / 4) (omega arith)).0,
        subst (λ (z : ℕ). z ≤ 15) (sym (thin e)) (few_lanes (addr % 16 / 4) (omega arith)).1,
      ))
      (λ n. (subst (λ (z : ℕ). 1 ≤ z) (sym (wide n)) (omega arith), subst (λ (z : ℕ). z ≤ 15) (sym (wide n)) (omega arith)))

  -- a lane that is not named is another than the address's
  other_lane : (j : ℕ) → j < 4 → covers (lanes_of size addr) j ≡ false → j ≢ addr % 16 / 4
  other_lane j lt off own = dite (ℕ_discrete size 4)
      (λ e. named j own (subst (λ (z : ℕ). covers z j ≡ false) (thin e) off))
      (λ n. never j lt (subst (λ (z : ℕ). covers z j ≡ false) (wide n) off))

  -- an operation of a load or a store that leaves the other lanes is sound
  sound_shape : (check write : Bool) (x : ℕ) (g : ℕ → ℕ) → 9 ≤ x → x < 135185 → ((v j : ℕ) → j < 4 → j ≢ addr % 16 / 4 → lane j (g v) ≡ lane j v) → IsSoundShape 135185 (record { word = x; lanes = lanes_of size addr; write = write; check = check; change = g })
  sound_shape check write x g low high leaves = record {
    low = low;
    high = high;
    lanes = some_lanes;
    fitting = λ is v j lt off. leaves v j lt (other_lane j lt off);
  }

  pub look_sound : (check : Bool) (x : ℕ) → 9 ≤ x → x < 135185 → IsSoundShape 135185 (record { word = x; lanes = lanes_of size addr; write = false; check = check; change = λ v. v })
  look_sound check x low high = sound_shape check false x (λ v. v) low high (λ v j lt n. refl)

  pub put_sound : (f : ℕ → ℕ → ℕ) (len x : ℕ) → addr % 4 + len ≤ 4 → 9 ≤ x → x < 135185 → IsSoundShape 135185 (writes_lanes (lanes_of size addr) x (changed_word f addr len (addr / 16)))
  put_sound f len x fits low high = sound_shape false true x (changed_word f addr len (addr / 16)) low high (λ v j lt n. changed_lane f addr len v j fits lt n)

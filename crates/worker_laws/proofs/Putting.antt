-- What a store puts in its word.
use Rattle.std.proofs.Common.{◌≡◌, ℕ, zero, suc, ◌+◌, ◌*◌, ◌/◌, ◌%◌, ◌^◌, ◌<◌, ◌≤◌, true, false, List, [], ◌∷◌, ◌++◌, length, Option, Some, None, refl, sym, ap, ◌∙◌, subst, arith, add-one}
use Rattle.std.proofs.Math.Logic.{∥∥₁_elim}
use denote.Struct.Props.{props}
use Rattle.std.specs.Prelude.{slice_get, slice_index}
use mathlib.Core.Option.{some, some-injective, some-ne-none}
use mathlib.Core.Logic.{dite}
use native.Mathlib.Decide.{ℕ_discrete}
use lib.ListN.{get_elem?}
use Rattle.std.proofs.lemmas.Nat.{xor_shr, xor_mod}
use Rattle.std.specs.Int.Bits.{bit_xor, xor_self}
use Rattle.pl_base.specs.declared.widths.StoreWidth.{StoreWidth}
use Rattle.pl_base.specs.Widths.{store_bytes}
use Rattle.pl_event.specs.declared.log.Line.{Line}
use Rattle.pl_event.specs.Numbers.{hart_of}
use Rattle.pl_event.specs.Records.{records_before}
use Rattle.pl_event.proofs.Places.{record_at}
use Rattle.lifeguard.specs.Plain.{mask_bit}
use Rattle.lifeguard.specs.Rules.{Rules}
use Rattle.order_core.specs.declared.course.Op.{Op}
use Rattle.order_core.specs.declared.course.Operation.{Operation}
use Rattle.order_core.specs.Course.{At, Planned, before, course_of, lane_before, length_of, operation_of, operations_from, tagged}
use Rattle.order_core.specs.Lanes.{HasValueOf, covers, lane}
use Rattle.order_core.specs.Lawful.{IsLawful}
use Rattle.order_core.proofs.Counts.{once}
use Rattle.order_core.proofs.Flatten.{at_left, at_right}
use Rattle.order_core.proofs.Known.{Known}
use Rattle.order_core.proofs.Ranks.{left_same, same_test}
use Rattle.order_core.proofs.Walks.{names, short}
use Rattle.guard_table.specs.Puts.{IsPutOf}
use Rattle.guard_table.specs.declared.put.Put.TheVariants.{Flip, Store}
use Rattle.shadow_frames.specs.Words.{nibble_of}
use Rattle.shadow_layout.specs.Operations.{in_block, lanes_of}
use Rattle.shadow_layout.proofs.LaneLemmas.{put_sound}
use Rattle.shadow_layout.proofs.NibbleLemmas.{changed_nibble}
use Rattle.worker_laws.specs.Runs.{IsRun, Run, size}
use Rattle.worker_laws.specs.Reads.{stored_word, value_read, value_write, word_of}
use Rattle.worker_laws.proofs.Reading.{same_nibble}

-- a lane is four nibbles
four : (x y : ℕ) → x % 16 ≡ y % 16 → x / 16 % 16 ≡ y / 16 % 16 → x / 16 / 16 % 16 ≡ y / 16 / 16 % 16 → x / 16 / 16 / 16 % 16 ≡ y / 16 / 16 / 16 % 16 → x % 65536 ≡ y % 65536
four x y a b c d = omega arith

over : (x : ℕ) → x / 16 / 16 / 16 / 16 ≡ x / 65536
over x = omega arith

twice : (x : ℕ) → x / 65536 / 65536 ≡ x / 4294967296
twice x = omega arith

thrice : (x : ℕ) → x / 4294967296 / 65536 ≡ x / 281474976710656
thrice x = omega arith

-- the word without its first lane
abbrev up : ℕ → ℕ
up x = x / 16 / 16 / 16 / 16

up_two : (x : ℕ) → up (up x) ≡ x / 4294967296
up_two x = over (up x) ∙ (ap (λ (z : ℕ). z / 65536) (over x) ∙ twice x)

up_three : (x : ℕ) → up (up (up x)) ≡ x / 281474976710656
up_three x = over (up (up x)) ∙ (ap (λ (z : ℕ). z / 65536) (up_two x) ∙ thrice x)

module _ (x y : ℕ) where
  abbrev Same : ℕ → Type 0
  Same k = nibble_of x k ≡ nibble_of y k

  lane_0 : Same 0 → Same 1 → Same 2 → Same 3 → lane 0 x ≡ lane 0 y
  lane_0 a b c d = let e : x / 1 ≡ x = omega arith in let f : y / 1 ≡ y = omega arith in ap (λ (z : ℕ). z % 65536) e ∙ (four x y a b c d ∙ ap (λ (z : ℕ). z % 65536) (sym f))

  lane_1 : Same 4 → Same 5 → Same 6 → Same 7 → lane 1 x ≡ lane 1 y
  lane_1 a b c d = ap (λ (z : ℕ). z % 65536) (sym (over x)) ∙ (four (up x) (up y) a b c d ∙ ap (λ (z : ℕ). z % 65536) (over y))

  lane_2 : Same 8 → Same 9 → Same 10 → Same 11 → lane 2 x ≡ lane 2 y
  lane_2 a b c d = ap (λ (z : ℕ). z % 65536) (sym (up_two x)) ∙ (four (up (up x)) (up (up y)) a b c d ∙ ap (λ (z : ℕ). z % 65536) (up_two y))

  lane_3 : Same 12 → Same 13 → Same 14 → Same 15 → lane 3 x ≡ lane 3 y
  lane_3 a b c d = ap (λ (z : ℕ). z % 65536) (sym (up_three x)) ∙ (four (up (up (up x))) (up (up (up y))) a b c d ∙ ap (λ (z : ℕ). z % 65536) (up_three y))

  same_lane : (j : ℕ) → j < 4 → ((k : ℕ) → k < 16 → k / 4 ≡ j → Same k) → lane j x ≡ lane j y
  same_lane j lt same = dite (ℕ_discrete j 0)
      (λ e. subst (λ (z : ℕ). lane z x ≡ lane z y) (sym e) (lane_0 (same 0 (omega arith) (omega arith)) (same 1 (omega arith) (omega arith)) (same 2 (omega arith) (omega arith)) (same 3 (omega arith) (omega arith))))
      (λ a. dite (ℕ_discrete j 1)
      (λ e. subst (λ (z : ℕ). lane z x ≡ lane z y) (sym e) (lane_1 (same 4 (omega arith) (omega arith)) (same 5 (omega arith) (omega arith)) (same 6 (omega arith) (omega arith)) (same 7 (omega arith) (omega arith))))
      (λ b. dite (ℕ_discrete j 2)
      (λ e. subst (λ (z : ℕ). lane z x ≡ lane z y) (sym e) (lane_2 (same 8 (omega arith) (omega arith)) (same 9 (omega arith) (omega arith)) (same 10 (omega arith) (omega arith)) (same 11 (omega arith) (omega arith))))
      (λ c. let e : j ≡ 3 = omega arith in subst (λ (z : ℕ). lane z x ≡ lane z y) (sym e) (lane_3 (same 12 (omega arith) (omega arith)) (same 13 (omega arith) (omega arith)) (same 14 (omega arith) (omega arith)) (same 15 (omega arith) (omega arith))))))

-- ---- two operations of a record, one after the other

abbrev some_op : Op → Option Op
some_op o = Some o

tag_at : (h m i : ℕ) (os : List Op) (p j : ℕ) (o : Op) → slice_get os p ≡ Some o → j ≡ i + p → get_elem? (tagged h m i os) p ≡ some (operation_of h m j o)
tag_at h m i [] p j o e s = absurd (let t : None ≡ some_op o = e in cc)
tag_at h m i (x ∷ os) zero j o e s = let same : x ≡ o = cc in let t : i ≡ j = omega arith in λ d. some (operation_of h m (t d) (same d))
tag_at h m i (x ∷ os) (suc p) j o e s = tag_at h m (suc i) os p j o e (omega arith)

module _ (ops : ℕ → ℕ → List Op) (g : List Line) where
  abbrev head : ℕ → Line → List Operation
  head i line = tagged (hart_of line.what) (records_before (hart_of line.what) g i + 1) 0 (ops (hart_of line.what) (records_before (hart_of line.what) g i + 1))

  abbrev tail : ℕ → List Line → List Operation
  tail i rest = operations_from ops g (suc i) rest

  -- they are listed one after the other
  both_listed : (i : ℕ) (rest : List Line) (k j : ℕ) (x : Line) → get_elem? rest k ≡ some x → j ≡ i + k → (h m : ℕ) → hart_of x.what ≡ h → records_before h g j + 1 ≡ m → (y : ℕ) (o r : Op) → slice_get (ops h m) y ≡ Some o → slice_get (ops h m) (suc y) ≡ Some r
      → (p : ℕ) × (get_elem? (operations_from ops g i rest) p ≡ some (operation_of h m y o)) × (get_elem? (operations_from ops g i rest) (suc p) ≡ some (operation_of h m (suc y) r))
  both_listed i [] k j x e s h m own number y o r f f' = absurd (some-ne-none x (sym e))
  both_listed i (z ∷ rest) zero j x e s h m own number y o r f f' =
      let same : z ≡ x = some-injective z x e in
      let here : i ≡ j = omega arith in
      let hart : hart_of z.what ≡ h = ap (λ (l : Line). hart_of l.what) same ∙ own in
      let count : records_before (hart_of z.what) g i + 1 ≡ m = (λ d. records_before (hart d) g (here d) + 1) ∙ number in
      let P : ℕ × ℕ → Type 0 = λ q. (p : ℕ) × (get_elem? (tagged q.0 q.1 0 (ops q.0 q.1) ++ tail i rest) p ≡ some (operation_of h m y o)) × (get_elem? (tagged q.0 q.1 0 (ops q.0 q.1) ++ tail i rest) (suc p) ≡ some (operation_of h m (suc y) r)) in
      subst P (λ d. (sym hart d, sym count d)) (
        y,
        at_left (tagged h m 0 (ops h m)) (tail i rest) y (operation_of h m y o) (tag_at h m 0 (ops h m) y y o f (omega arith)),
        at_left (tagged h m 0 (ops h m)) (tail i rest) (suc y) (operation_of h m (suc y) r) (tag_at h m 0 (ops h m) (suc y) (suc y) r f' (omega arith)),
      )
  both_listed i (z ∷ rest) (suc k) j x e s h m own number y o r f f' =
      let t = both_listed (suc i) rest k j x e (omega arith) h m own number y o r f f' in (
        length (head i z) + t.0,
        at_right (head i z) (tail i rest) (length (head i z) + t.0) t.0 (operation_of h m y o) refl t.1,
        at_right (head i z) (tail i rest) (suc (length (head i z) + t.0)) (suc t.0) (operation_of h m (suc y) r) (omega arith) t.2,
      )

-- before an operation that follows a read, the lanes of the read have its value
lane_kept : (plan : Planned) (k : Known (course_of plan)) → IsLawful (course_of plan) → (h m y : ℕ) (o r : Op) → 1 ≤ m → m ≤ length_of (course_of plan) h → slice_get (plan.operations h m) y ≡ Some o → slice_get (plan.operations h m) (suc y) ≡ Some r
    → o.write ≡ false → (p : ℕ) → At (course_of plan) p (operation_of h m (suc y) r) → (j : ℕ) → j < 4 → covers o.lanes j ≡ true → lane_before (course_of plan) p o.word j ≡ lane j o.value
lane_kept plan k lawful h m y o r from low f f' read p at j four cov =
    let t = record_at plan.log.lines (length plan.log.lines) h m from low in
    let b = both_listed plan.operations plan.log.lines 0 plan.log.lines t.0 t.0 t.1 t.3.at (omega arith) h m t.3.hart t.3.number y o r f f' in
    let here : suc b.0 ≡ p = once (course_of plan) (names plan k) (short plan k) (suc b.0) p (operation_of h m (suc y) r) (operation_of h m (suc y) r) b.2 at refl refl refl in
    ap (λ (z : ℕ). lane_before (course_of plan) z o.word j) (sym here)
    ∙ (left_same (before (suc b.0)) (before b.0) 0 (course_of plan).operations o.word j (lane j (slice_index plan.opening o.word))
    (λ i i' a is e w word covered. same_test i' (suc b.0) i' b.0
    (λ l. other i' b.0 l (λ q. no_write a (operation_of h m y o) (some-injective a (operation_of h m y o) (sym is ∙ ap (get_elem? (course_of plan).operations) (let z : i ≡ b.0 = omega arith in z) ∙ b.1)) w read))
    (λ l. omega arith))
    ∙ sym (lawful.values b.0 (operation_of h m y o) b.1 read j four cov))
  where
    other : (i b : ℕ) → i < suc b → (i ≡ b → ⊥) → i < b
    other i b l ne = let n : i ≡ b → ⊥ = ne in dite (ℕ_discrete i b) (λ e. absurd (n e)) (λ u. let v : i ≡ b → ⊥ = u in omega arith)

    no_write : (a c : Operation) → a ≡ c → a.what.write ≡ true → c.what.write ≡ false → ⊥
    no_write a c e w n = let g : true ≡ false = sym w ∙ (ap (λ (z : Operation). z.what.write) e ∙ n) in cc

-- ---- the word after a store

module _ (rules : Rules) (mask : ℕ) (width : StoreWidth) (block addr : ℕ) (fits : addr % 4 + store_bytes width ≤ 4) where
  abbrev f : ℕ → ℕ → ℕ
  f i old = rules.store_nibble old (mask_bit mask i)

  -- words that have a lane in common have it in common after it
  stored_lane : (x y j : ℕ) → j < 4 → lane j x ≡ lane j y → lane j (stored_word rules mask width addr x) ≡ lane j (stored_word rules mask width addr y)
  stored_lane x y j four same = same_lane (stored_word rules mask width addr x) (stored_word rules mask width addr y) j four (λ k lt group.
      changed_nibble f addr (store_bytes width) (addr / 16) x k lt
      ∙ (ap (λ (z : ℕ). in_block f addr (store_bytes width) (addr / 16) k z % 16) (same_nibble x y k lt (ap (λ (z : ℕ). lane z x) group ∙ (same ∙ ap (λ (z : ℕ). lane z y) (sym group))))
      ∙ sym (changed_nibble f addr (store_bytes width) (addr / 16) y k lt)))

  -- and it leaves the lanes that it does not name
  other_lane : (x j : ℕ) → j < 4 → covers (lanes_of block addr) j ≡ false → lane j (stored_word rules mask width addr x) ≡ lane j x
  other_lane x j four off = (put_sound block addr f (store_bytes width) 9 fits (omega arith) (omega arith)).fitting refl x j four off

  -- a store puts what becomes of the word that the read before it found
  pub stored_value : (w : ℕ → ℕ) (x : ℕ) → HasValueOf (value_read block w addr) x → HasValueOf (value_write block w addr (stored_word rules mask width addr)) (stored_word rules mask width addr x)
  stored_value w x has j four cov = stored_lane x (w (word_of w addr)) j four (has j four cov)

lane_xor : (j a b : ℕ) → lane j (bit_xor a b) ≡ bit_xor (lane j a) (lane j b)
lane_xor j a b = ap (λ (z : ℕ). z % 2 ^ 16) (xor_shr a b (16 * j)) ∙ xor_mod (a / 2 ^ (16 * j)) (b / 2 ^ (16 * j)) 16

module _ (p : Run) (run : IsRun p) (k : Known (course_of p.plan)) (h m i : ℕ) (from : 1 ≤ m) (low : m ≤ size p h) (mask : ℕ) (width : StoreWidth) (addr : ℕ) (fits : addr % 4 + store_bytes width ≤ 4) (w : ℕ → ℕ) where
  abbrev reading : Op
  reading = value_read p.plan.log.block w addr

  abbrev writing : Op
  writing = value_write p.plan.log.block w addr (stored_word p.rules mask width addr)

  module _ (here : slice_get (p.plan.operations h m) i ≡ Some reading) (after : slice_get (p.plan.operations h m) (i + 1) ≡ Some writing) (x : ℕ) (has : HasValueOf reading x) (at : ℕ) (is : At (course_of p.plan) at (operation_of h m (i + 1) writing)) where
    pub store_put : p.plan.log.block ≡ 16 → IsPutOf (course_of p.plan) at (operation_of h m (i + 1) writing) (Store (stored_word p.rules mask width addr x))
    store_put block = (ap (λ (z : ℕ). lanes_of z addr) block, stored_value p.rules mask width p.plan.log.block addr fits w x has)

    before_it : (j : ℕ) → j < 4 → covers (lanes_of p.plan.log.block addr) j ≡ true → lane_before (course_of p.plan) at (word_of w addr) j ≡ lane j (w (word_of w addr))
    before_it j four cov = ∥∥₁_elim run.lawful (hlevel props) (λ (l : IsLawful (course_of p.plan)).
        lane_kept p.plan k l h m i reading writing from low here (ap (slice_get (p.plan.operations h m)) (sym (add-one i)) ∙ after) refl at
        (subst (λ (z : ℕ). At (course_of p.plan) at (operation_of h m z writing)) (add-one i) is) j four cov)

    pub flip_put : IsPutOf (course_of p.plan) at (operation_of h m (i + 1) writing) (Flip (bit_xor x (stored_word p.rules mask width addr x)))
    flip_put j four = (
      (λ cov. lane_xor j x (stored_word p.rules mask width addr x)
          ∙ (ap (λ (z : ℕ). bit_xor z (lane j (stored_word p.rules mask width addr x))) (has j four cov ∙ sym (before_it j four cov))
          ∙ ap (bit_xor (lane_before (course_of p.plan) at (word_of w addr) j)) (stored_value p.rules mask width p.plan.log.block addr fits w x has j four cov))),
      (λ off. lane_xor j x (stored_word p.rules mask width addr x)
          ∙ (ap (bit_xor (lane j x)) (other_lane p.rules mask width p.plan.log.block addr fits x j four off) ∙ xor_self (lane j x))),
    )

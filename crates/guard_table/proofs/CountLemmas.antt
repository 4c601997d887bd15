-- The plan in which two harts count in words of their own keeps the laws of plans, and what its harts may do.
use Rattle.std.proofs.Common.{◌≡◌, ℕ, zero, suc, ◌+◌, ◌<◌, ◌≤◌, true, false, [], ◌∷◌, Option, Some, None, slice_get, slice_index, refl, sym, ap, ◌∙◌, subst, arith}
use Rattle.order_core.specs.declared.course.Course.{Course}
use Rattle.order_core.specs.declared.course.Op.{Op}
use Rattle.order_core.specs.declared.course.Operation.{Operation}
use Rattle.order_core.specs.Lanes.{lane}
use Rattle.order_core.specs.Counts.{writes_before}
use Rattle.order_core.specs.Course.{Planned, At, course_of, length_of, operation_of, rank}
use Rattle.order_core.specs.Lawful.{InOrder, IsLawful, IsSoundOp, HasPaths, HasValues}
use Rattle.order_core.specs.Core.{IsMet, IsPassed}
use Rattle.order_core.proofs.Counts.{rank_by_name, next_write, first_record}
use Rattle.order_core.proofs.Flatten.{course_in_order}
use Rattle.order_core.proofs.Known.{Known, known}
use Rattle.order_core.proofs.Named.{op_at}
use Rattle.guard_table.specs.declared.put.Put.TheVariants.{Store}
use Rattle.guard_table.specs.declared.view.View.{View}
use Rattle.guard_table.specs.Seats.{IsWriteNow}
use Rattle.guard_table.specs.inner.TestPlans.{test_op, counting, count_operations, two_words}
use Rattle.guard_table.proofs.TestPlanLemmas.{lawful, of_place, first_record_alone, no_needs}

abbrev some_op : Op → Option Op
some_op o = Some o

-- what is in the list: the write of a number in the word
counted : (w v n i : ℕ) → i < n → slice_get (counting w v n) i ≡ Some (test_op w 15 true false (v + i))
counted w v zero i l = absurd (omega arith)
counted w v (suc n) zero l = ap (λ (z : ℕ). Some (test_op w 15 true false z)) (omega arith)
counted w v (suc n) (suc i) l = counted w (suc v) n i (omega arith) ∙ ap (λ (z : ℕ). Some (test_op w 15 true false z)) (omega arith)

record IsCount (n w i : ℕ) (o : Op) : Type 0 where
  low : i < n
  word : o.word ≡ w
  lanes : o.lanes ≡ 15
  write : o.write ≡ true

is_count : (w v n i : ℕ) (o : Op) → slice_get (counting w v n) i ≡ Some o → IsCount n w i o
is_count w v zero i o e = absurd (let t : None ≡ some_op o = e in cc)
is_count w v (suc n) zero o e = subst (IsCount (suc n) w 0) (let s : test_op w 15 true false v ≡ o = cc in s) (record { low = omega arith; word = refl; lanes = refl; write = refl })
is_count w v (suc n) (suc i) o e = let t = is_count w (suc v) n i o e in record { low = (let l : i < n = t.low in omega arith); word = t.word; lanes = t.lanes; write = t.write }

of_hart : (n h i : ℕ) (o : Op) → slice_get (count_operations n h) i ≡ Some o → (h < 2) × IsCount n (9 + h) i o
of_hart n zero i o e = (omega arith, is_count 9 1 n i o e)
of_hart n (suc zero) i o e = (omega arith, is_count 10 1 n i o e)
of_hart n (suc (suc h)) i o e = absurd (let t : None ≡ some_op o = e in cc)

there : (n h i : ℕ) → h < 2 → i < n → slice_get (count_operations n h) i ≡ Some (test_op (9 + h) 15 true false (1 + i))
there n zero i low l = counted 9 1 n i l
there n (suc zero) i low l = counted 10 1 n i l
there n (suc (suc h)) i low l = absurd (omega arith)

module _ (n : ℕ) (few : n < 4294967295) where
  abbrev plan : Planned
  plan = two_words n

  abbrev c : Course
  c = course_of plan

  of_at : (p : ℕ) (a : Operation) → At c p a → (a.hart < 2) × IsCount n (9 + a.hart) a.op a.what
  of_at p a at = of_hart n a.hart a.op a.what (of_place (0 ∷ 0 ∷ []) (count_operations n) p a at)

  sound : (h i : ℕ) (o : Op) → slice_get (count_operations n h) i ≡ Some o → (i < 4294967295) × IsSoundOp 11 o
  sound h i o e =
      let t = of_hart n h i o e in
      let l : i < n = t.1.low in
      let w : o.word ≡ 9 + h = t.1.word in
      let m : h < 2 = t.0 in
      let f : o.lanes ≡ 15 = t.1.lanes in
      (omega arith, record { low = omega arith; high = omega arith; lanes = (omega arith, omega arith) })

  values : HasValues c
  values p a at read j low cov = absurd (let t : true ≡ false = sym (of_at p a at).1.write ∙ read in cc)

  paths : HasPaths c
  paths p q a b x y l ne clash =
      let v : a.what.word ≡ 9 + a.hart = (of_at p a x).1.word in
      let w : b.what.word ≡ 9 + b.hart = (of_at q b y).1.word in
      let s : a.what.word ≡ b.what.word = clash.0.0 in
      absurd (ne (omega arith))

  pub two_words_lawful : ∥ IsLawful c ∥₁
  two_words_lawful = ∣ lawful (0 ∷ 0 ∷ []) (count_operations n) (omega arith) sound values paths ∣₁

  is : Known c
  is = known c two_words_lawful

  order : InOrder c
  order = course_in_order plan

  short : (p : ℕ) (a : Operation) → At c p a → a.op < 4294967295
  short p a at = (is.inside p a at).op

  met : (seen : ℕ → ℕ) (h m : ℕ) → IsMet c seen h m
  met seen h m u k j need l = absurd (no_needs u k h j need)

  one_record : (h : ℕ) → h < 2 → 1 ≤ length_of c h
  one_record zero l = let e : length_of c 0 ≡ 1 = refl in omega arith
  one_record (suc zero) l = let e : length_of c 1 ≡ 1 = refl in omega arith
  one_record (suc (suc h)) l = absurd (omega arith)

  -- write i of a hart
  place_of : (h i : ℕ) → h < 2 → i < n → (p : ℕ) × At c p (operation_of h 1 i (test_op (9 + h) 15 true false (1 + i)))
  place_of h i low l = op_at plan h 1 i (test_op (9 + h) 15 true false (1 + i)) (omega arith) (one_record h low) (there n h i low l)

  before_it : (h i : ℕ) → h < 2 → i ≤ n → writes_before c h 1 i ≡ i
  before_it h zero low l = first_record c order short (λ p a at. (is.inside p a at).from_one) h
  before_it h (suc i) low l =
      let at = place_of h i low (omega arith) in
      let s : i + 1 ≡ suc i = omega arith in
      subst (λ (z : ℕ). writes_before c h 1 z ≡ z) s
      (next_write c order short h 1 i at.0 (operation_of h 1 i (test_op (9 + h) 15 true false (1 + i))) at.1 (refl, refl, refl) refl ∙ ap (λ (z : ℕ). z + 1) (before_it h i low (omega arith)))

  pub may_count : (v : View) (i : ℕ) → v.hart < 2 → v.written ≡ i → i < n → (p : ℕ) × (a : Operation) × IsWriteNow c v 1 i (9 + v.hart) (Store (i + 1)) p a
  may_count v i low written l =
      let at = place_of v.hart i low l in
      let a : Operation = operation_of v.hart 1 i (test_op (9 + v.hart) 15 true false (1 + i)) in
      let s : i + 1 ≡ 1 + i = omega arith in (
        at.0,
        a,
        record {
          name = (refl, refl, refl);
          on = refl;
          next = (at.1, refl, refl, rank_by_name c order short v.hart 1 i at.0 a at.1 (refl, refl, refl) ∙ (before_it v.hart i low (omega arith) ∙ sym written), met (slice_index v.seen) v.hart 1);
          puts = (refl, λ j four cov. ap (lane j) s);
        },
      )

  pub has_counted : (v : View) → v.hart < 2 → v.written ≡ n → IsPassed c v.written (slice_index v.seen) v.hart 1
  has_counted v low written = (
    one_record v.hart low,
    met (slice_index v.seen) v.hart 1,
    λ p a at own w l.
        let m : a.number ≡ 1 = first_record_alone (0 ∷ 0 ∷ []) (count_operations n) p a at in
        let t = of_at p a at in
        let o : a.op < n = t.1.low in
        let r : rank v.hart c.operations p ≡ writes_before c v.hart 1 a.op = rank_by_name c order short v.hart 1 a.op p a at (own, m, refl) in
        let b : writes_before c v.hart 1 a.op ≡ a.op = before_it v.hart a.op low (omega arith) in
        omega arith,
  )

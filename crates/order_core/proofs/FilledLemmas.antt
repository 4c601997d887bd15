-- The operations of a filled plan in executed order are filled from the words as they are.
use Rattle.std.proofs.Common.{◌≡◌, ℕ, zero, suc, ◌+◌, ◌<◌, List, [], ◌∷◌, ◌++◌, length, slice_index, refl, sym, ap, ◌∙◌, subst, arith, ◌^◌, Some, None, slice_get}
use mathlib.Core.Option.{some}
use lib.ListN.{get_elem?}
use Rattle.pl_event.specs.declared.log.Line.{Line}
use Rattle.pl_event.specs.declared.log.Log.{Log}
use Rattle.pl_event.specs.Numbers.{hart_of}
use Rattle.pl_event.specs.Records.{line_number, records_before, IsRecord}
use Rattle.pl_event.proofs.Places as places
use Rattle.order_core.specs.declared.course.Op.{Op}
use Rattle.order_core.specs.declared.course.Operation.{Operation}
use Rattle.order_core.specs.Lanes.{lane}
use Rattle.order_core.specs.Course.{Planned, IsListed, course_of, operations_from, tagged, last_lane}
use Rattle.order_core.specs.Lawful.{HasValues, IsSoundOp, IsLawful}
use Rattle.order_core.specs.Shapes.{Shape, fill, AreFilled, AreSoundShapes, AreFitting, filled_op, after_shape}
use Rattle.order_core.specs.Filled.{words_after, operations_at, AllFit, AreLawfulShapes, filled_plan}
use Rattle.order_core.proofs.Named.{some_op}
use Rattle.order_core.proofs.PlanLemmas.{plan_lawful}
use Rattle.order_core.proofs.Values.{filled_tagged, values_hold, after_operations, left_end, after_filled}

fitting_of : (n : ℕ) (ss : List Shape) → AreSoundShapes n ss → AreFitting ss
fitting_of n [] a = tt
fitting_of n (s ∷ ss) a = (a.0.fitting, fitting_of n ss a.1)

sound_op : (n : ℕ) (w : ℕ → ℕ) (ss : List Shape) → AreSoundShapes n ss → (i : ℕ) (o : Op) → slice_get (fill w ss) i ≡ Some o → IsSoundOp n o
sound_op n w [] a i o e = absurd (let f : None ≡ some_op o = e in cc)
sound_op n w (s ∷ ss) a zero o e =
    let f : some_op (filled_op (w s.word) s) ≡ some_op o = e in
    let same : filled_op (w s.word) s ≡ o = cc in
    subst (IsSoundOp n) same (record { low = a.0.low; high = a.0.high; lanes = a.0.lanes })
sound_op n w (s ∷ ss) a (suc i) o e = sound_op n (after_shape w s) ss a.1 i o e

below : (w : ℕ → ℕ) (ss : List Shape) (i : ℕ) (o : Op) → slice_get (fill w ss) i ≡ Some o → i < length ss
below w [] i o e = absurd (let f : None ≡ some_op o = e in cc)
below w (s ∷ ss) zero o e = omega arith
below w (s ∷ ss) (suc i) o e = let l : i < length ss = below (after_shape w s) ss i o e in omega arith

module _ (shapes : ℕ → (ℕ → ℕ) → List Shape) (log : Log) (opening : List ℕ) where
  abbrev g : List Line
  g = log.lines

  abbrev plan : Planned
  plan = filled_plan shapes log opening

  abbrev at : ℕ → (ℕ → ℕ)
  at = words_after shapes opening

  abbrev Goes : ℕ → List Line → Type 0
  Goes i rest = (k : ℕ) → get_elem? rest k ≡ get_elem? g (i + k)

  here : (i : ℕ) (l : Line) (rest : List Line) → Goes i (l ∷ rest) → get_elem? g i ≡ some l
  here i l rest goes = ap (get_elem? g) (omega arith) ∙ sym (goes zero)

  further : (i : ℕ) (l : Line) (rest : List Line) → Goes i (l ∷ rest) → Goes (suc i) rest
  further i l rest goes k = goes (suc k) ∙ ap (get_elem? g) (omega arith)

  ops_here : (i : ℕ) (l : Line) → get_elem? g i ≡ some l → plan.operations (hart_of l.what) (records_before (hart_of l.what) g i + 1) ≡ fill (at i) (shapes i (at i))
  ops_here i l e =
      let h : ℕ = hart_of l.what in
      let is : IsRecord g i h (records_before h g i + 1) l = record { at = e; hart = refl; number = refl } in
      let found : line_number g h (records_before h g i + 1) ≡ i + 1 = places.line_number_of g i h (records_before h g i + 1) l is in
      ap (operations_at shapes opening) (found ∙ (let n : i + 1 ≡ suc i = omega arith in n))

  module _ (fit : AllFit shapes opening (length log.lines)) where
    filled_from : (i : ℕ) (rest : List Line) → Goes i rest → AreFilled (at i) (operations_from plan.operations g i rest)
    filled_from i [] goes = tt
    filled_from i (l ∷ rest) goes =
        let e : get_elem? g i ≡ some l = here i l rest goes in
        let h : ℕ = hart_of l.what in
        let m : ℕ = records_before h g i + 1 in
        let more : List Operation = operations_from plan.operations g (suc i) rest in
        subst (λ (os : List Op). AreFilled (at i) (tagged h m 0 os ++ more)) (sym (ops_here i l e))
        (filled_tagged h m 0 (at i) (shapes i (at i)) more (fit i (places.inside g i l e)) (filled_from (suc i) rest (further i l rest goes)))

    filled : AreFilled (slice_index opening) (course_of plan).operations
    filled = filled_from 0 g (λ k. ap (get_elem? g) (omega arith))

    pub values : HasValues (course_of plan)
    values p a at reads j four covered = values_hold (slice_index opening) (course_of plan).operations filled p a at reads j four

    end_from : (i : ℕ) (rest : List Line) → Goes i rest → after_operations (at i) (operations_from plan.operations g i rest) ≡ at (i + length rest)
    end_from i [] goes = let e : i ≡ i + 0 = omega arith in ap at e
    end_from i (l ∷ rest) goes =
        let e : get_elem? g i ≡ some l = here i l rest goes in
        let h : ℕ = hart_of l.what in
        let m : ℕ = records_before h g i + 1 in
        let more : List Operation = operations_from plan.operations g (suc i) rest in
        let far : suc i + length rest ≡ i + length (l ∷ rest) = omega arith in
        ap (λ (os : List Op). after_operations (at i) (tagged h m 0 os ++ more)) (ops_here i l e)
        ∙ (after_filled (at i) h m 0 (shapes i (at i)) more ∙ (end_from (suc i) rest (further i l rest goes) ∙ ap at far))

    pub last : (w j : ℕ) → j < 4 → last_lane (course_of plan) w j ≡ lane j (at (length log.lines) w)
    last w j four =
        let n : 0 + length log.lines ≡ length log.lines = omega arith in
        left_end (slice_index opening) (course_of plan).operations 0 w j four filled
        ∙ ap (λ (f : ℕ → ℕ). lane j (f w)) (end_from 0 g (λ k. ap (get_elem? g) (omega arith)) ∙ ap at n)

  -- an operation of the plan is one of a record of the log
  listed : (h m i : ℕ) (o : Op) → IsListed plan h m i o → (j : ℕ) × (j < length log.lines) × (slice_get (fill (at j) (shapes j (at j))) i ≡ Some o)
  listed h m i o is =
      let t = places.record_at g (length g) h m is.from_one is.number in
      let found : line_number g h m ≡ suc t.0 = places.line_number_of g t.0 h m t.1 t.3 ∙ (let n : t.0 + 1 ≡ suc t.0 = omega arith in n) in
      (t.0, t.2, subst (λ (z : ℕ). slice_get (operations_at shapes opening z) i ≡ Some o) found is.op)

  pub lawful : AreLawfulShapes shapes log opening → IsLawful (course_of plan)
  lawful are = plan_lawful plan (record {
    log = are.run;
    few = are.few;
    ordered = are.ordered;
    table = are.table;
    short = λ h m i o is. let t = listed h m i o is in
        let low : i < length (shapes t.0 (at t.0)) = below (at t.0) (shapes t.0 (at t.0)) i o t.2 in
        let few : length (shapes t.0 (at t.0)) < 2 ^ 32 = (are.sound t.0 t.1).1 in
        omega arith;
    sound = λ h m i o is. let t = listed h m i o is in sound_op (length opening) (at t.0) (shapes t.0 (at t.0)) (are.sound t.0 t.1).0 i o t.2;
    values = values (λ i low. fitting_of (length opening) (shapes i (at i)) (are.sound i low).0);
    paths = are.paths;
  })

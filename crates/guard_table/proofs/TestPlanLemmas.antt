-- The plans that are run as tests keep the laws of plans, and what their harts may do.
use Rattle.std.proofs.Common.{◌≡◌, ℕ, zero, suc, ◌+◌, ◌/◌, ◌%◌, ◌^◌, ◌<◌, ◌≤◌, ◌==◌, true, false, List, [], ◌∷◌, ◌++◌, length, replicate, Some, None, slice_get, slice_index, refl, sym, ap, ◌∙◌, subst, inl, inr, arith, length-append}
use mathlib.Core.Option.{some, some-ne-none}
use lib.ListN.{get_elem?}
use Rattle.pl_event.specs.declared.log.Line.{Line}
use Rattle.pl_event.specs.declared.log.Log.{Log}
use Rattle.pl_event.specs.Edges.{Into, IsNotice, arc_of}
use Rattle.pl_event.specs.Needs.{IsNeed}
use Rattle.pl_event.specs.Runs.{IsRunLog}
use Rattle.pl_event.proofs.Sources.{need_edge}
use Rattle.order_core.specs.declared.course.Course.{Course}
use Rattle.order_core.specs.declared.course.Op.{Op}
use Rattle.order_core.specs.declared.course.Operation.{Operation}
use Rattle.order_core.specs.Lanes.{covers}
use Rattle.order_core.specs.Course.{Planned, At, Clash, course_of, operation_of, rank}
use Rattle.order_core.specs.Lawful.{IsLawful, IsSoundOp, HasPaths, HasValues}
use Rattle.order_core.specs.Core.{IsMet}
use Rattle.order_core.proofs.Named.{op_of}
use Rattle.order_core.proofs.Plain.{each, IsPlain, no_number, plain_flow, plain_log, plain_ordered}
use Rattle.order_core.proofs.PlanLemmas.{plan_lawful}
use Rattle.order_core.proofs.SmallPlans.{no_lane, lane_apart, on_paths, HasValue, no_value}
use Rattle.guard_table.specs.declared.put.Put.TheVariants.{Flip}
use Rattle.guard_table.specs.declared.view.View.{View}
use Rattle.guard_table.specs.Views.{first_view, fresh_view, wrote}
use Rattle.guard_table.specs.Puts.{IsFlip}
use Rattle.guard_table.specs.Seats.{IsReadNow, IsWriteNow}
use Rattle.guard_table.specs.inner.TestPlans.{test_op, two_lines, of_first, two_records, no_operations, lane_operations, two_lanes}

abbrev log_two : Log
log_two = (two_records [] (λ h. [])).log

fine : (i : ℕ) (line : Line) → get_elem? two_lines i ≡ some line → IsPlain 2 two_lines i line
fine = each (IsPlain 2 two_lines) two_lines (
  record { is = (0, refl, omega arith); eight = refl; arcs = λ u n e. absurd (no_number 8 u n e) },
  (record { is = (1, refl, omega arith); eight = refl; arcs = λ u n e. absurd (no_number 8 u n e) }, tt),
)

run_log : IsRunLog log_two
run_log = plain_log log_two fine (record { some = omega arith; few = omega arith; block = inl refl; rising = tt; room = omega arith })

no_notice : (u n h m : ℕ) → IsNotice two_lines u n h m → ⊥
no_notice u n h m (i, line, is, e) = let t = (fine i line is.at).is in let f = sym t.1 ∙ e in cc

no_edge : (u n h m : ℕ) → Into two_lines u n h m → ⊥
no_edge u n h m (inl (i, line, is, e)) = each (λ i line. arc_of line u ≡ Some n → ⊥) two_lines ((λ e. no_number 8 u n e), ((λ e. no_number 8 u n e), tt)) i line is.at e
no_edge u n h m (inr (inl is)) = no_notice u n h m is
no_edge u n h m (inr (inr (i, line, k, is, e, note))) = no_notice h k u n note

-- no record needs any other
pub no_needs : (u n h m : ℕ) → IsNeed two_lines u n h m → ⊥
no_needs u n h m need = no_edge u n h m (need_edge 2 two_lines (plain_flow log_two fine) u n h m need)

zeros : (more : List ℕ) (w : ℕ) → w < 9 → slice_index (replicate 9 0 ++ more) w ≡ 0
zeros more zero l = refl
zeros more (suc zero) l = refl
zeros more (suc (suc zero)) l = refl
zeros more (suc (suc (suc zero))) l = refl
zeros more (suc (suc (suc (suc zero)))) l = refl
zeros more (suc (suc (suc (suc (suc zero))))) l = refl
zeros more (suc (suc (suc (suc (suc (suc zero)))))) l = refl
zeros more (suc (suc (suc (suc (suc (suc (suc zero))))))) l = refl
zeros more (suc (suc (suc (suc (suc (suc (suc (suc zero)))))))) l = refl
zeros more (suc (suc (suc (suc (suc (suc (suc (suc (suc w))))))))) l = absurd (omega arith)

module _ (more : List ℕ) (f : ℕ → List Op) where
  abbrev plan : Planned
  plan = two_records more f

  size : length plan.opening ≡ 9 + length more
  size = length-append (replicate 9 0) more

  -- an operation of a record is one of record 1
  of_list : (h m i : ℕ) (o : Op) → slice_get (of_first f h m) i ≡ Some o → (m ≡ 1) × (slice_get (f h) i ≡ Some o)
  of_list h zero i o e = absurd (let t : None ≡ Some o = e in cc)
  of_list h (suc zero) i o e = (refl, e)
  of_list h (suc (suc m)) i o e = absurd (let t : None ≡ Some o = e in cc)

  pub of_place : (p : ℕ) (a : Operation) → At (course_of plan) p a → slice_get (f a.hart) a.op ≡ Some a.what
  of_place p a at =
      let t = op_of plan p a at in
      let s : a.what ≡ t.0 = ap (λ (z : Operation). z.what) t.2 in
      subst (λ (z : Op). slice_get (f a.hart) a.op ≡ Some z) (sym s) (of_list a.hart a.number a.op t.0 t.1).1

  pub first_record_alone : (p : ℕ) (a : Operation) → At (course_of plan) p a → a.number ≡ 1
  first_record_alone p a at = let t = op_of plan p a at in (of_list a.hart a.number a.op t.0 t.1).0

  pub lawful : length more < 1000 → ((h i : ℕ) (o : Op) → slice_get (f h) i ≡ Some o → (i < 4294967295) × IsSoundOp (9 + length more) o) → HasValues (course_of plan) → HasPaths (course_of plan) → IsLawful (course_of plan)
  lawful small ops values paths = plan_lawful plan (record {
    log = run_log;
    few = let two : length plan.log.lines ≡ 2 = refl in omega arith;
    ordered = plain_ordered log_two fine;
    table = record { size = (let l = size in (omega arith, omega arith)); zeros = zeros more };
    short = λ h m i o is. (ops h i o (of_list h m i o is.op).1).0;
    sound = λ h m i o is. subst (λ (z : ℕ). IsSoundOp z o) (sym size) (ops h i o (of_list h m i o is.op).1).1;
    values = values;
    paths = paths;
  })

no_op : (i : ℕ) (o : Op) → slice_get [] i ≡ Some o → ⊥
no_op i o e = let t : None ≡ Some o = e in cc

pub no_operations_lawful : ∥ IsLawful (course_of no_operations) ∥₁
no_operations_lawful = ∣ lawful [] (λ h. []) (omega arith) (λ h i o e. absurd (no_op i o e)) (λ p a at. absurd (some-ne-none a (sym at))) (λ p q a b at. absurd (some-ne-none a (sym at))) ∣₁

abbrev lanes_course : Course
lanes_course = course_of two_lanes

no_write : {A : Type 0} → false ≡ true → A
no_write e = absurd (let f : false ≡ true = e in cc)

same_op : (x o : Op) → Some x ≡ Some o → x ≡ o
same_op x o e = cc

sound_lanes : (h i : ℕ) (o : Op) → slice_get (lane_operations h) i ≡ Some o → (i < 4294967295) × IsSoundOp 10 o
sound_lanes zero zero o e = (omega arith, subst (IsSoundOp 10) (same_op _ o e) (record { low = omega arith; high = omega arith; lanes = (omega arith, omega arith) }))
sound_lanes zero (suc zero) o e = (omega arith, subst (IsSoundOp 10) (same_op _ o e) (record { low = omega arith; high = omega arith; lanes = (omega arith, omega arith) }))
sound_lanes zero (suc (suc zero)) o e = (omega arith, subst (IsSoundOp 10) (same_op _ o e) (record { low = omega arith; high = omega arith; lanes = (omega arith, omega arith) }))
sound_lanes zero (suc (suc (suc i))) o e = absurd (no_op i o e)
sound_lanes (suc h) zero o e = (omega arith, subst (IsSoundOp 10) (same_op _ o e) (record { low = omega arith; high = omega arith; lanes = (omega arith, omega arith) }))
sound_lanes (suc h) (suc i) o e = absurd (no_op i o e)

read_value : HasValue lanes_course 1 (operation_of 0 1 1 (test_op 9 1 false false 7))
unfolding covers
read_value r zero low cov = refl
read_value r (suc j) low cov = absurd (no_lane 1 1 (suc j) (omega arith) (omega arith) cov)

check_value : HasValue lanes_course 2 (operation_of 0 1 2 (test_op 9 1 false true 7))
unfolding covers
check_value r zero low cov = refl
check_value r (suc j) low cov = absurd (no_lane 1 1 (suc j) (omega arith) (omega arith) cov)

lane_values : HasValues lanes_course
lane_values = each (HasValue lanes_course) lanes_course.operations (
  no_value lanes_course 0 (operation_of 0 1 0 (test_op 9 1 true false 7)) refl,
  (read_value, (check_value, (no_value lanes_course 3 (operation_of 1 1 0 (test_op 9 2 true false 196608)) refl, tt))),
)

-- what touches lane 0 alone does not clash with what touches lane 1 alone
apart : (a b : Operation) → a.what.lanes ≡ 1 → b.what.lanes ≡ 2 → Clash a b → ⊥
unfolding covers
apart a b x y clash = lane_apart clash.0.1 (subst (λ (z : ℕ). (z / 2 ^ clash.0.1 % 2 == 1) ≡ true) x clash.0.2) (subst (λ (z : ℕ). (z / 2 ^ clash.0.1 % 2 == 1) ≡ true) y clash.0.3)

lane_paths : HasPaths lanes_course
lane_paths = on_paths lanes_course (
  ((λ l ne clash. absurd (ne refl)), ((λ l ne clash. absurd (ne refl)), ((λ l ne clash. absurd (ne refl)), ((λ l ne clash. absurd (apart (operation_of 0 1 0 (test_op 9 1 true false 7)) (operation_of 1 1 0 (test_op 9 2 true false 196608)) refl refl clash)), tt)))),
  (
    ((λ l ne clash. absurd (ne refl)), ((λ l ne clash. absurd (ne refl)), ((λ l ne clash. absurd (ne refl)), ((λ l ne clash. absurd (apart (operation_of 0 1 1 (test_op 9 1 false false 7)) (operation_of 1 1 0 (test_op 9 2 true false 196608)) refl refl clash)), tt)))),
    (
      ((λ l ne clash. absurd (ne refl)), ((λ l ne clash. absurd (ne refl)), ((λ l ne clash. absurd (ne refl)), ((λ l ne clash. absurd (apart (operation_of 0 1 2 (test_op 9 1 false true 7)) (operation_of 1 1 0 (test_op 9 2 true false 196608)) refl refl clash)), tt)))),
      (((λ l ne clash. absurd (omega arith)), ((λ l ne clash. absurd (omega arith)), ((λ l ne clash. absurd (omega arith)), ((λ l ne clash. absurd (ne refl)), tt)))), tt),
    ),
  ),
)

pub two_lanes_lawful : ∥ IsLawful lanes_course ∥₁
two_lanes_lawful = ∣ lawful (21474836482 ∷ []) lane_operations (omega arith) sound_lanes lane_values lane_paths ∣₁

no_needs_met : (seen : ℕ → ℕ) (h m : ℕ) → IsMet lanes_course seen h m
no_needs_met seen h m u n k need l = absurd (no_needs u n h k need)

low_flip : IsFlip lanes_course 0 (operation_of 0 1 0 (test_op 9 1 true false 7)) 5
unfolding covers
low_flip zero l = ((λ cov. refl), (λ none. absurd (let f : true ≡ false = none in cc)))
low_flip (suc zero) l = ((λ cov. no_write cov), (λ none. refl))
low_flip (suc (suc zero)) l = ((λ cov. no_write cov), (λ none. refl))
low_flip (suc (suc (suc zero))) l = ((λ cov. no_write cov), (λ none. refl))
low_flip (suc (suc (suc (suc j)))) l = absurd (omega arith)

high_flip : IsFlip lanes_course 3 (operation_of 1 1 0 (test_op 9 2 true false 196608)) 196608
unfolding covers
high_flip zero l = ((λ cov. no_write cov), (λ none. refl))
high_flip (suc zero) l = ((λ cov. refl), (λ none. absurd (let f : true ≡ false = none in cc)))
high_flip (suc (suc zero)) l = ((λ cov. no_write cov), (λ none. refl))
high_flip (suc (suc (suc zero))) l = ((λ cov. no_write cov), (λ none. refl))
high_flip (suc (suc (suc (suc j)))) l = absurd (omega arith)

pub may_write_low : (v : View) → v ≡ fresh_view 0 (first_view lanes_course) → (p : ℕ) × (a : Operation) × IsWriteNow lanes_course v 1 0 9 (Flip 5) p a
may_write_low v e = subst (λ (z : View). (p : ℕ) × (a : Operation) × IsWriteNow lanes_course z 1 0 9 (Flip 5) p a) (sym e) (
  0,
  operation_of 0 1 0 (test_op 9 1 true false 7),
  record { name = (refl, refl, refl); on = refl; next = (refl, refl, refl, refl, no_needs_met (slice_index (replicate 8 0)) 0 1); puts = low_flip },
)

pub may_write_high : (v : View) → v ≡ fresh_view 1 (first_view lanes_course) → (p : ℕ) × (a : Operation) × IsWriteNow lanes_course v 1 0 9 (Flip 196608) p a
may_write_high v e = subst (λ (z : View). (p : ℕ) × (a : Operation) × IsWriteNow lanes_course z 1 0 9 (Flip 196608) p a) (sym e) (
  3,
  operation_of 1 1 0 (test_op 9 2 true false 196608),
  record { name = (refl, refl, refl); on = refl; next = (refl, refl, refl, refl, no_needs_met (slice_index (replicate 8 0)) 1 1); puts = high_flip },
)

-- of the writes of hart 0 just the one at 0 is performed
just_first : (p : ℕ) → 1 ≤ p → (q : ℕ) (b : Operation) → At lanes_course q b → b.what.write ≡ true → b.hart ≡ 0 → (rank 0 lanes_course.operations q < 1 → q < p) × (q < p → rank 0 lanes_course.operations q < 1)
just_first p low = each (λ q b. b.what.write ≡ true → b.hart ≡ 0 → (rank 0 lanes_course.operations q < 1 → q < p) × (q < p → rank 0 lanes_course.operations q < 1)) lanes_course.operations (
  (λ w own. ((λ l. omega arith), (λ l. omega arith))),
  ((λ w own. no_write w), ((λ w own. no_write w), ((λ w own. absurd (let o : 1 ≡ 0 = own in omega arith)), tt))),
)

pub may_read_low : (v : View) → v ≡ wrote (fresh_view 0 (first_view lanes_course)) → (p : ℕ) × (a : Operation) × IsReadNow lanes_course v 1 1 9 false p a
may_read_low v e = subst (λ (z : View). (p : ℕ) × (a : Operation) × IsReadNow lanes_course z 1 1 9 false p a) (sym e) (
  1,
  operation_of 0 1 1 (test_op 9 1 false false 7),
  record { name = (refl, refl, refl); on = refl; kind = refl; may = (refl, refl, refl, no_needs_met (slice_index (replicate 8 0)) 0 1, omega arith, λ q b at w own on. just_first 1 (omega arith) q b at w own) },
)

pub may_check_low : (v : View) → v ≡ wrote (fresh_view 0 (first_view lanes_course)) → (p : ℕ) × (a : Operation) × IsReadNow lanes_course v 1 2 9 true p a
may_check_low v e = subst (λ (z : View). (p : ℕ) × (a : Operation) × IsReadNow lanes_course z 1 2 9 true p a) (sym e) (
  2,
  operation_of 0 1 2 (test_op 9 1 false true 7),
  record { name = (refl, refl, refl); on = refl; kind = refl; may = (refl, refl, refl, no_needs_met (slice_index (replicate 8 0)) 0 1, omega arith, λ q b at w own on. just_first 2 (omega arith) q b at w own) },
)

-- A plan of two harts that is run as a test keeps the laws of plans.
use Rattle.std.proofs.Common.{◌≡◌, ◌≢◌, ℕ, zero, suc, ◌+◌, ◌<◌, ◌≤◌, List, [], ◌∷◌, ◌++◌, length, replicate, Some, None, slice_get, slice_index, Vec, Global, refl, sym, ap, ◌∙◌, subst, inl, inr, arith}
use mathlib.Core.Option.{some}
use lib.ListN.{get_elem?}
use Rattle.pl_event.specs.declared.log.Line.{Line}
use Rattle.pl_event.specs.declared.log.Log.{Log}
use Rattle.pl_event.specs.Edges.{Into, arc_of}
use Rattle.pl_event.specs.Graph.{Path, one}
use Rattle.pl_event.specs.Records.{records_before}
use Rattle.order_core.specs.declared.course.Course.{Course}
use Rattle.order_core.specs.declared.course.Op.{Op}
use Rattle.order_core.specs.declared.course.Operation.{Operation}
use Rattle.order_core.specs.declared.record_plan.RecordPlan.{RecordPlan}
use Rattle.pl_event.specs.Needs.{needs_of}
use Rattle.order_core.specs.Lists.{stream_of}
use Rattle.order_core.specs.Course.{At, Planned, course_of, operation_of, tagged, length_of}
use Rattle.order_core.specs.Lanes.{covers}
use Rattle.order_core.specs.Lawful.{IsLawful, IsInside}
use Rattle.pl_event.specs.Runs.{IsRunLog}
use Rattle.order_core.proofs.Flatten.{course_in_order}
use Rattle.order_core.proofs.Plain.{each, IsPlain, no_number, plain_log, plain_ordered}
use Rattle.order_core.proofs.SmallPlans.{line_of, no_arcs, write, read, no_lane, lanes_apart, reads_apart, AreOnPaths, on_paths, HasValue, no_value}

abbrev pub lines : List Line
lines = line_of 0 no_arcs ∷ line_of 1 (Some 1 ∷ replicate 7 None) ∷ line_of 0 (None ∷ Some 1 ∷ replicate 6 None) ∷ []

abbrev pub log_two : Log
log_two = record { harts = 2; block = 16; pages = []; lines = lines }

abbrev pub opening_two : List ℕ
opening_two = 0 ∷ 0 ∷ 0 ∷ 0 ∷ 0 ∷ 0 ∷ 0 ∷ 0 ∷ 0 ∷ 5 ∷ 0 ∷ []

abbrev pub ops_two : ℕ → ℕ → List Op
ops_two zero (suc zero) = write 9 1 7 ∷ []
ops_two (suc zero) (suc zero) = read 9 1 7 ∷ write 9 2 196608 ∷ []
ops_two zero (suc (suc zero)) = read 9 3 196615 ∷ write 10 15 9 ∷ []
ops_two h m = []

abbrev pub planned_two : Planned
planned_two = record { log = log_two; opening = opening_two; operations = ops_two }

abbrev pub two : Course
two = course_of planned_two

second_arcs : (u n : ℕ) → arc_of (line_of 1 (Some 1 ∷ replicate 7 None)) u ≡ Some n → (u < 2) × (u ≢ 1) × (1 ≤ n) × (n ≤ records_before u lines 1)
second_arcs zero n e = let s : 1 ≡ n = (let f : Some 1 ≡ Some n = e in cc) in let r : records_before 0 lines 1 ≡ 1 = refl in (omega arith, (λ z. omega arith), omega arith, omega arith)
second_arcs (suc u) n e = absurd (no_number 7 u n e)

third_arcs : (u n : ℕ) → arc_of (line_of 0 (None ∷ Some 1 ∷ replicate 6 None)) u ≡ Some n → (u < 2) × (u ≢ 0) × (1 ≤ n) × (n ≤ records_before u lines 2)
third_arcs zero n e = absurd (let f : None ≡ Some n = e in cc)
third_arcs (suc zero) n e = let s : 1 ≡ n = (let f : Some 1 ≡ Some n = e in cc) in let r : records_before 1 lines 2 ≡ 1 = refl in (omega arith, (λ z. omega arith), omega arith, omega arith)
third_arcs (suc (suc u)) n e = absurd (no_number 6 u n e)

fine : (i : ℕ) (line : Line) → get_elem? lines i ≡ some line → IsPlain 2 lines i line
fine = each (IsPlain 2 lines) lines (
  record { is = (0, refl, omega arith); eight = refl; arcs = λ u n e. absurd (no_number 8 u n e) },
  (
    record { is = (1, refl, omega arith); eight = refl; arcs = second_arcs },
    (record { is = (0, refl, omega arith); eight = refl; arcs = third_arcs }, tt),
  ),
)

inside : (p : ℕ) (a : Operation) → At two p a → IsInside two a
inside =
    let zeroth : length_of two 0 ≡ 2 = refl in
    let first : length_of two 1 ≡ 1 = refl in
    let words : length two.opening ≡ 11 = refl in
    each (λ p a. IsInside two a) two.operations (
      record { hart = omega arith; from_one = omega arith; number = omega arith; op = omega arith; what = record { low = omega arith; high = omega arith; lanes = (omega arith, omega arith) } },
      (
        record { hart = omega arith; from_one = omega arith; number = omega arith; op = omega arith; what = record { low = omega arith; high = omega arith; lanes = (omega arith, omega arith) } },
        (
          record { hart = omega arith; from_one = omega arith; number = omega arith; op = omega arith; what = record { low = omega arith; high = omega arith; lanes = (omega arith, omega arith) } },
          (
            record { hart = omega arith; from_one = omega arith; number = omega arith; op = omega arith; what = record { low = omega arith; high = omega arith; lanes = (omega arith, omega arith) } },
            (record { hart = omega arith; from_one = omega arith; number = omega arith; op = omega arith; what = record { low = omega arith; high = omega arith; lanes = (omega arith, omega arith) } }, tt),
          ),
        ),
      ),
    )

early_value : HasValue two 1 (operation_of 1 1 0 (read 9 1 7))
unfolding covers
early_value r zero low cov = refl
early_value r (suc j) low cov = absurd (no_lane 1 1 (suc j) (omega arith) (omega arith) cov)

late_value : HasValue two 3 (operation_of 0 2 0 (read 9 3 196615))
unfolding covers
late_value r zero low cov = refl
late_value r (suc zero) low cov = refl
late_value r (suc (suc j)) low cov = absurd (no_lane 3 2 (suc (suc j)) (omega arith) (omega arith) cov)

values : (p : ℕ) (a : Operation) → At two p a → HasValue two p a
values = each (HasValue two) two.operations (
  no_value two 0 (operation_of 0 1 0 (write 9 1 7)) refl,
  (
    early_value,
    (no_value two 2 (operation_of 1 1 1 (write 9 2 196608)) refl, (late_value, (no_value two 4 (operation_of 0 2 1 (write 10 15 9)) refl, tt))),
  ),
)

there : Path (Into lines) 0 1 1 1
there = one (inr (inl (1, line_of 1 (Some 1 ∷ replicate 7 None), record { at = refl; hart = refl; number = refl }, refl)))

back : Path (Into lines) 1 1 0 2
back = one (inr (inl (2, line_of 0 (None ∷ Some 1 ∷ replicate 6 None), record { at = refl; hart = refl; number = refl }, refl)))

paths : AreOnPaths two
paths = (
  ((λ l ne clash. absurd (omega arith)), ((λ l ne clash. there), ((λ l ne clash. absurd (lanes_apart 0 1 0 1 1 1 7 196608 clash)), ((λ l ne clash. absurd (ne refl)), ((λ l ne clash. absurd (ne refl)), tt))))),
  (
    ((λ l ne clash. absurd (omega arith)), ((λ l ne clash. absurd (omega arith)), ((λ l ne clash. absurd (ne refl)), ((λ l ne clash. absurd (reads_apart (operation_of 1 1 0 (read 9 1 7)) (operation_of 0 2 0 (read 9 3 196615)) refl refl clash)), ((λ l ne clash. absurd (let e : 9 ≡ 10 = clash.0.0 in omega arith)), tt))))),
    (
      ((λ l ne clash. absurd (omega arith)), ((λ l ne clash. absurd (omega arith)), ((λ l ne clash. absurd (omega arith)), ((λ l ne clash. back), ((λ l ne clash. absurd (let e : 9 ≡ 10 = clash.0.0 in omega arith)), tt))))),
      (
        ((λ l ne clash. absurd (omega arith)), ((λ l ne clash. absurd (omega arith)), ((λ l ne clash. absurd (omega arith)), ((λ l ne clash. absurd (omega arith)), ((λ l ne clash. absurd (ne refl)), tt))))),
        (((λ l ne clash. absurd (omega arith)), ((λ l ne clash. absurd (omega arith)), ((λ l ne clash. absurd (omega arith)), ((λ l ne clash. absurd (omega arith)), ((λ l ne clash. absurd (omega arith)), tt))))), tt),
      ),
    ),
  ),
)

zeros : (w : ℕ) → w < 9 → slice_index opening_two w ≡ 0
zeros zero l = refl
zeros (suc zero) l = refl
zeros (suc (suc zero)) l = refl
zeros (suc (suc (suc zero))) l = refl
zeros (suc (suc (suc (suc zero)))) l = refl
zeros (suc (suc (suc (suc (suc zero))))) l = refl
zeros (suc (suc (suc (suc (suc (suc zero)))))) l = refl
zeros (suc (suc (suc (suc (suc (suc (suc zero))))))) l = refl
zeros (suc (suc (suc (suc (suc (suc (suc (suc zero)))))))) l = refl
zeros (suc (suc (suc (suc (suc (suc (suc (suc (suc w))))))))) l = absurd (omega arith)

run_log : IsRunLog log_two
run_log = plain_log log_two fine (record { some = omega arith; few = omega arith; block = inl refl; rising = tt; room = omega arith })

two_lawful : IsLawful two
two_lawful = record {
  log = run_log;
  few = let records : length two.log.lines ≡ 3 = refl in omega arith;
  table = record { size = (let words : length two.opening ≡ 11 = refl in (omega arith, omega arith)); zeros = zeros };
  inside = inside;
  in_order = course_in_order planned_two;
  ordered = plain_ordered log_two fine;
  values = values;
  paths = on_paths two paths;
}

-- the plan of two harts, however its operations are given
pub two_harts : (ops : ℕ → ℕ → List Op) → ops 0 1 ≡ ops_two 0 1 → ops 1 1 ≡ ops_two 1 1 → ops 0 2 ≡ ops_two 0 2 → IsLawful (course_of (record { log = log_two; opening = opening_two; operations = ops }))
two_harts ops x y z = subst IsLawful (sym same) two_lawful
  where
    same : course_of (record { log = log_two; opening = opening_two; operations = ops }) ≡ two
    same = λ i. record { log = log_two; operations = tagged 0 1 0 (x i) ++ (tagged 1 1 0 (y i) ++ (tagged 0 2 0 (z i) ++ [])); opening = opening_two }

-- the records of each hart are those of the log
pub two_records : (vs : List (Vec RecordPlan Global)) (v w : Vec RecordPlan Global) (ls : List Line) → vs ≡ v ∷ w ∷ [] → ls ≡ lines → length v.items ≡ 2 → length w.items ≡ 1 → (h : ℕ) → h < 2 → length (stream_of vs h) ≡ records_before h ls (length ls)
two_records vs v w ls e is x y h low = subst (λ (z : List (Vec RecordPlan Global) × List Line). length (stream_of z.0 h) ≡ records_before h z.1 (length z.1)) (λ i. (sym e i, sym is i)) (by h low)
  where
    by : (h : ℕ) → h < 2 → length (stream_of (v ∷ w ∷ []) h) ≡ records_before h lines (length lines)
    by zero l = x
    by (suc zero) l = y
    by (suc (suc h)) l = absurd (omega arith)

pub two_needs : (vs : List (Vec RecordPlan Global)) (v w : Vec RecordPlan Global) (ls : List Line) (a b c : RecordPlan) → vs ≡ v ∷ w ∷ [] → ls ≡ lines → v.items ≡ a ∷ c ∷ [] → w.items ≡ b ∷ []
    → a.needs ≡ no_arcs → b.needs ≡ Some 1 ∷ replicate 7 None → c.needs ≡ None ∷ Some 1 ∷ replicate 6 None
    → (h m : ℕ) (r : RecordPlan) → h < 2 → slice_get (stream_of vs h) m ≡ Some r → r.needs ≡ needs_of ls h (m + 1)
two_needs vs v w ls a b c e is x y na nb nc h m r low there = subst (λ (z : List Line). r.needs ≡ needs_of z h (m + 1)) (sym is) (by h m low (subst (λ (z : List (Vec RecordPlan Global)). slice_get (stream_of z h) m ≡ Some r) e there))
  where
    first : (m : ℕ) → slice_get (a ∷ c ∷ []) m ≡ Some r → r.needs ≡ needs_of lines 0 (m + 1)
    first zero f = let s : a ≡ r = cc in ap (λ (z : RecordPlan). z.needs) (sym s) ∙ na
    first (suc zero) f = let s : c ≡ r = cc in ap (λ (z : RecordPlan). z.needs) (sym s) ∙ nc
    first (suc (suc m)) f = absurd (let g : None ≡ Some r = f in cc)

    second : (m : ℕ) → slice_get (b ∷ []) m ≡ Some r → r.needs ≡ needs_of lines 1 (m + 1)
    second zero f = let s : b ≡ r = cc in ap (λ (z : RecordPlan). z.needs) (sym s) ∙ nb
    second (suc m) f = absurd (let g : None ≡ Some r = f in cc)

    by : (h m : ℕ) → h < 2 → slice_get (stream_of (v ∷ w ∷ []) h) m ≡ Some r → r.needs ≡ needs_of lines h (m + 1)
    by zero m l f = first m (subst (λ (z : List RecordPlan). slice_get z m ≡ Some r) x f)
    by (suc zero) m l f = second m (subst (λ (z : List RecordPlan). slice_get z m ≡ Some r) y f)
    by (suc (suc h)) m l f = absurd (omega arith)

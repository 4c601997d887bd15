-- Lists that have the records of a plan make the same course.
use Rattle.std.proofs.Common.{◌≡◌, ℕ, zero, suc, ◌+◌, ◌-◌, ◌<◌, ◌≤◌, List, [], ◌∷◌, ◌++◌, length, slice_get, Some, Vec, Global, refl, sym, ap, ◌∙◌, subst, arith}
use Rattle.std.proofs.Math.Logic.{∥∥₁_elim}
use denote.Struct.Props.{props}
use mathlib.Core.Option.{some}
use lib.ListN.{get_elem?}
use Rattle.pl_event.specs.declared.log.Line.{Line}
use Rattle.pl_event.specs.declared.log.Log.{Log}
use Rattle.pl_event.specs.Numbers.{hart_of}
use Rattle.pl_event.specs.Records.{records_before}
use Rattle.pl_event.specs.Runs.{IsRunLog}
use Rattle.pl_event.proofs.Places as places
use Rattle.order_core.specs.declared.course.Course.{Course}
use Rattle.order_core.specs.declared.course.Op.{Op}
use Rattle.order_core.specs.declared.record_plan.RecordPlan.{RecordPlan}
use Rattle.order_core.specs.Course.{Planned, course_of, operations_from, tagged}
use Rattle.order_core.specs.Lists.{HasNeeds, HasRecords, listed, ops_in, ops_of, stream_of}
use Rattle.order_core.specs.Lawful.{IsLawful}
use Rattle.lifeguard.specs.Rules.{Rules}
use Rattle.log_plan.specs.Plans.{opening_list, plan_of}
use Rattle.list_plan.specs.Agrees.{Agrees}
use Rattle.list_plan.specs.inner.Rows.{HasRows}

there : (xs : List RecordPlan) (k : ℕ) → k < length xs → (r : RecordPlan) × (slice_get xs k ≡ Some r)
there [] k lt = absurd (omega arith)
there (x ∷ xs) zero lt = (x, refl)
there (x ∷ xs) (suc k) lt = there xs k (omega arith)

module _ (a b : ℕ → ℕ → List Op) (g : List Line) (same : (h m : ℕ) → 1 ≤ m → m ≤ records_before h g (length g) → a h m ≡ b h m) where
  abbrev Goes : ℕ → List Line → Type 0
  Goes i rest = (k : ℕ) → get_elem? rest k ≡ get_elem? g (i + k)

  here : (i : ℕ) (l : Line) (rest : List Line) → Goes i (l ∷ rest) → get_elem? g i ≡ some l
  here i l rest goes = ap (get_elem? g) (omega arith) ∙ sym (goes zero)

  further : (i : ℕ) (l : Line) (rest : List Line) → Goes i (l ∷ rest) → Goes (suc i) rest
  further i l rest goes k = goes (suc k) ∙ ap (get_elem? g) (omega arith)

  number_in : (i h : ℕ) (l : Line) → get_elem? g i ≡ some l → hart_of l.what ≡ h → records_before h g i + 1 ≤ records_before h g (length g)
  number_in i h l at own =
      let e : records_before h g (i + 1) ≡ records_before h g i + 1 = places.before_own g i h l at own in
      let lt : i < length g = places.inside g i l at in
      let up : records_before h g (i + 1) ≤ records_before h g (length g) = places.before_up g (i + 1) (length g) h (omega arith) in
      omega arith

  same_from : (i : ℕ) (rest : List Line) → Goes i rest → operations_from a g i rest ≡ operations_from b g i rest
  same_from i [] goes = refl
  same_from i (l ∷ rest) goes =
      let h : ℕ = hart_of l.what in
      let m : ℕ = records_before h g i + 1 in
      let at : get_elem? g i ≡ some l = here i l rest goes in
      let one : a h m ≡ b h m = same h m (omega arith) (number_in i h l at refl) in
      let more : operations_from a g (suc i) rest ≡ operations_from b g (suc i) rest = same_from (suc i) rest (further i l rest goes) in
      (λ d. tagged h m 0 (one d) ++ more d)

  pub same_operations : operations_from a g 0 g ≡ operations_from b g 0 g
  same_operations = same_from 0 g (λ k. ap (get_elem? g) (omega arith))

module _ (log : Log) (run : ∥ IsRunLog log ∥₁) (opening : List ℕ) (ops : ℕ → ℕ → List Op) (streams : List (Vec RecordPlan Global)) (harts : length streams ≡ log.harts)
    (rows : HasRows log.lines ops (length log.lines) streams) where
  -- a hart with a record is one of the log
  hart_in : (h m : ℕ) → 1 ≤ m → m ≤ records_before h log.lines (length log.lines) → h < length streams
  hart_in h m from_one number =
      let t = places.record_at log.lines (length log.lines) h m from_one number in
      let low : h < log.harts = ∥∥₁_elim run (hlevel props) (λ (r : IsRunLog log). r.flow.within t.0 h m t.1 t.3) in
      omega arith

  pub same_ops : (h m : ℕ) → 1 ≤ m → m ≤ records_before h log.lines (length log.lines) → ops_in streams h m ≡ ops h m
  same_ops h m from_one number =
      let low : h < length streams = hart_in h m from_one number in
      let long : length (stream_of streams h) ≡ records_before h log.lines (length log.lines) = rows.count h low in
      let t = there (stream_of streams h) (m - 1) (omega arith) in
      let e : m - 1 + 1 ≡ m = omega arith in
      ap ops_of t.1 ∙ ((rows.rows h (m - 1) t.0 low t.1).operations ∙ ap (ops h) e)

  abbrev planned : Planned
  planned = record { log = log; opening = opening; operations = ops }

  pub agrees : Agrees planned (listed log opening streams)
  agrees = record { log = refl; opening = refl; operations = same_ops }

  pub same_course : course_of (listed log opening streams) ≡ course_of planned
  same_course =
      let same : operations_from (ops_in streams) log.lines 0 log.lines ≡ operations_from ops log.lines 0 log.lines = same_operations (ops_in streams) ops log.lines same_ops in
      (λ d. record { log = log; operations = same d; opening = opening })

  pub has_records : HasRecords log streams
  has_records h lt = rows.count h (omega arith)

  pub has_needs : HasNeeds log streams
  has_needs h m r lt e = (rows.rows h m r (omega arith) e).needs

-- ---- the lists that are made

module _ (rules : Rules) (log copy : Log) (same : copy ≡ log) (run : ∥ IsRunLog log ∥₁) (opening : List ℕ) (words : opening ≡ opening_list rules log.pages) (streams : List (Vec RecordPlan Global)) (harts : length streams ≡ log.harts)
    (rows : HasRows log.lines (plan_of rules log).operations (length log.lines) streams) where
  pub listed_course : course_of (listed copy opening streams) ≡ course_of (plan_of rules log)
  listed_course = (λ d. course_of (listed (same d) (words d) streams)) ∙ same_course log run (opening_list rules log.pages) (plan_of rules log).operations streams harts rows

  pub listed_agrees : Agrees (plan_of rules log) (listed copy opening streams)
  listed_agrees = subst (λ (z : Log × List ℕ). Agrees (plan_of rules log) (listed z.0 z.1 streams)) (λ d. (sym same d, sym words d)) (agrees log run (opening_list rules log.pages) (plan_of rules log).operations streams harts rows)

  pub listed_lawful : ∥ IsLawful (course_of (plan_of rules log)) ∥₁ → ∥ IsLawful (course_of (listed copy opening streams)) ∥₁
  listed_lawful lawful = subst (λ (c : Course). ∥ IsLawful c ∥₁) (sym listed_course) lawful

  pub listed_harts : length streams ≡ copy.harts
  listed_harts = harts ∙ ap (λ (l : Log). l.harts) (sym same)

  pub listed_records : HasRecords copy streams
  listed_records = subst (λ (l : Log). HasRecords l streams) (sym same) (has_records log run (opening_list rules log.pages) (plan_of rules log).operations streams harts rows)

  pub listed_needs : HasNeeds copy streams
  listed_needs = subst (λ (l : Log). HasNeeds l streams) (sym same) (has_needs log run (opening_list rules log.pages) (plan_of rules log).operations streams harts rows)

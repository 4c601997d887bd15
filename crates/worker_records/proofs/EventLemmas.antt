-- A record is taken.
use Rattle.std.proofs.Common.{◌≡◌, ℕ, ◌+◌, ◌-◌, ◌≤◌, ◌++◌, List, Option, None, length, refl, sym, ap, ◌∙◌, subst, arith}
use Rattle.std.specs.Prelude.{vec_capacity, vec_len}
use Rattle.pl_event.specs.declared.event.Kind.{Kind}
use Rattle.pl_event.specs.declared.log.Line.{Line}
use Rattle.pl_event.specs.declared.log.Point.{Point}
use Rattle.pl_event.specs.declared.log.Record.TheVariants as entry
use Rattle.pl_event.specs.Records.{IsRecord}
use Rattle.pl_event.proofs.Sources.{found}
use Rattle.lifeguard.specs.declared.report.EventPlace.{EventPlace}
use Rattle.lifeguard.specs.declared.report.Report.{Report}
use Rattle.lifeguard.specs.Plain.{bad_sent, bad_touch, marked_register, reports_of}
use Rattle.lifeguard.specs.Rules.{Rules}
use Rattle.lifeguard.specs.State.{State as Plain}
use Rattle.order_core.specs.Course.{course_of}
use Rattle.order_core.proofs.Known.{Known, known}
use Rattle.guard_table.specs.declared.view.View.{View}
use Rattle.idem_filter.specs.Filter as filter
use Rattle.meta_lookaside.specs.LookAside as look
use Rattle.worker_laws.specs.Runs.{IsRun, Run, before, kind_in, kind_of, reach_in, reports_before}
use Rattle.worker_laws.specs.Folds.{steps_at}
use Rattle.worker_laws.specs.Kept.{HoldsNothing, Kept, Parts}
use Rattle.worker_laws.specs.Kept as laws
use Rattle.worker_laws.proofs.Taking.{unchecked}
use Rattle.worker_laws.proofs.Turning.{kept_notice}
use Rattle.worker_records.specs.declared.state.Found.{Found}
use Rattle.worker_records.specs.declared.state.State.{State}
use Rattle.worker_records.specs.Accesses.{HasWritten}
use Rattle.worker_records.specs.Places.{run_at}
use Rattle.worker_records.specs.Reports.{all_reports}
use Rattle.worker_records.specs.States.{IsKept, IsMade, IsNext, IsReady, parts_of}
use Rattle.worker_records.proofs.CountLemmas.{steps_same}

-- ---- a notice

module _ (rules : Rules) (v : View) (s : State) (ready : IsReady rules v s) (i : ℕ) (line : Line) (hart : ℕ) (of : Point) (is : IsRecord (run_at rules v).plan.log.lines i v.hart (s.taken + 1) line) (what : line.what ≡ entry.Notice hart of) where
  k : Known (course_of (run_at rules v).plan)
  k = known (course_of (run_at rules v).plan) ready.run.lawful

  nothing_done : kind_of line.what ≡ None
  nothing_done = ap kind_of what

  pub notice_steps : steps_at (run_at rules v) v.hart (s.taken + 1) ≡ steps_at (run_at rules v) v.hart s.taken
  notice_steps = steps_same (run_at rules v) v.hart s.taken
      (unchecked (run_at rules v) ready.run k v.hart (s.taken + 1) (ap reach_in (ap kind_in (found (run_at rules v).plan.log.lines i v.hart (s.taken + 1) line is) ∙ nothing_done)))

  -- s' is s with its held loads resolved
  pub notice_kept : (s' : State) → s'.taken ≡ s.taken → IsKept rules v s' → HoldsNothing (parts_of s') → (lk : look.Slots) (sl : filter.Slots) → lk ≡ look.empty → sl ≡ filter.empty
      → Kept (run_at rules v) v.hart v (s'.taken + 1) (record (parts_of s') { look = lk; slots = sl })
  notice_kept s' same kept nothing lk sl le se =
      subst (λ (z : look.Slots). Kept (run_at rules v) v.hart v (s'.taken + 1) (record (parts_of s') { look = z; slots = sl })) (sym le)
      (subst (λ (z : filter.Slots). Kept (run_at rules v) v.hart v (s'.taken + 1) (record (parts_of s') { look = look.empty; slots = z })) (sym se)
      (kept_notice (run_at rules v) kept.run k v.hart v s'.taken (parts_of s') kept.kept (subst (λ (n : ℕ). laws.IsNext (run_at rules v) v.hart v n) (sym same) ready.next) i line
      (subst (λ (n : ℕ). IsRecord (run_at rules v).plan.log.lines i v.hart (n + 1) line) (sym same) is) nothing_done nothing))

-- ---- an event

pub all_are : (rules : Rules) (at : EventPlace) (kind : Kind) (state : Plain) (marked : Option ℕ) (f : Found) → marked ≡ marked_register rules state.masks at.hart kind → f.touched ≡ bad_touch rules state.bytes kind → f.sent ≡ bad_sent rules state.bytes kind
    → all_reports rules at kind marked f ≡ reports_of rules at kind state
all_are rules at kind state marked f em et es =
    ap (λ (z : Option ℕ). all_reports rules at kind z f) em
    ∙ (ap (λ (z : Option ℕ). all_reports rules at kind (marked_register rules state.masks at.hart kind) (record { touched = z; sent = f.sent })) et
    ∙ ap (λ (z : Option ℕ). all_reports rules at kind (marked_register rules state.masks at.hart kind) (record { touched = bad_touch rules state.bytes kind; sent = z })) es)

-- s1 is s with held loads resolved, s2 the event made, t its reports added
module _ (rules : Rules) (v w : View) (written : HasWritten v w) (run : IsRun (run_at rules v)) (s s1 s2 t : State) (kind : Kind) (f : Found) (at : EventPlace) (marked : Option ℕ) (hart : at.hart ≡ v.hart)
    (counted : s.reports.items ≡ reports_before (run_at rules v) v.hart (s.taken + 1)) (taken1 : s1.taken ≡ s.taken) (reports1 : s1.reports ≡ s.reports) (made : IsMade rules v w s1 s2 kind f)
    (is_marked : marked ≡ marked_register rules (before (run_at rules v) v.hart (s.taken + 1)).state.masks v.hart kind)
    (told : reports_before (run_at rules v) v.hart (s.taken + 1 + 1) ≡ reports_before (run_at rules v) v.hart (s.taken + 1) ++ reports_of rules at kind (before (run_at rules v) v.hart (s.taken + 1)).state) where
  pub reports_are : all_reports rules at kind marked f ≡ reports_of rules at kind (before (run_at rules v) v.hart (s.taken + 1)).state
  reports_are = all_are rules at kind (before (run_at rules v) v.hart (s.taken + 1)).state marked f
      (subst (λ (z : ℕ). marked ≡ marked_register rules (before (run_at rules v) v.hart (s.taken + 1)).state.masks z kind) (sym hart) is_marked)
      (subst (λ (n : ℕ). f.touched ≡ bad_touch rules (before (run_at rules v) v.hart (n + 1)).state.bytes kind) taken1 made.touched)
      (subst (λ (n : ℕ). f.sent ≡ bad_sent rules (before (run_at rules v) v.hart (n + 1)).state.bytes kind) taken1 made.sent)

  module _ (added : t.reports.items ≡ s2.reports.items ++ all_reports rules at kind marked f) (others : t ≡ record s2 { reports = t.reports }) where
    all_told : t.reports.items ≡ reports_before (run_at rules v) v.hart (s1.taken + 1 + 1)
    all_told = subst (λ (n : ℕ). t.reports.items ≡ reports_before (run_at rules v) v.hart (n + 1 + 1)) (sym taken1)
        (added ∙ (ap (λ (z : List Report). z ++ all_reports rules at kind marked f) (ap (λ (z : _). z.items) (made.reports ∙ reports1) ∙ counted)
        ∙ (ap (λ (z : List Report). reports_before (run_at rules v) v.hart (s.taken + 1) ++ z) reports_are ∙ sym told)))

    same_taken : t.taken ≡ s1.taken
    same_taken = ap (λ (z : State). z.taken) others ∙ made.taken

    kept_here : Kept (run_at rules v) v.hart w (t.taken + 1) (parts_of t)
    kept_here = subst (λ (n : ℕ). Kept (run_at rules v) v.hart w (n + 1) (parts_of t)) (sym same_taken)
        (subst (λ (z : Parts). Kept (run_at rules v) v.hart w (s1.taken + 1) z) (sym (ap parts_of others)) (made.kept t.reports.items all_told))

    pub event_kept : IsKept rules w (record t { taken = t.taken + 1 })
    event_kept = subst (λ (z : View). IsKept rules z (record t { taken = t.taken + 1 })) (sym written.same)
        (record { run = run; kept = subst (λ (z : View). Kept (run_at rules v) v.hart z (t.taken + 1) (parts_of t)) written.same kept_here })

-- an event of a kind that is known
pub as_kind : (rules : Rules) (v w : View) (s t : State) (kind k : Kind) (f : Found) → kind ≡ k → (IsNext rules v s k → IsMade rules v w s t k f) → IsNext rules v s kind → IsMade rules v w s t kind f
as_kind rules v w s t kind k f e made = subst (λ (z : Kind). IsNext rules v s z → IsMade rules v w s t z f) (sym e) made

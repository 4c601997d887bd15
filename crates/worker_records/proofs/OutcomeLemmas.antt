-- A check, once it is counted.
use Rattle.std.proofs.Common.{◌≡◌, ◌≢◌, ℕ, zero, suc, ◌+◌, ◌-◌, ◌*◌, ◌/◌, ◌%◌, ◌<◌, ◌≤◌, Bool, true, false, List, Option, Some, None, find, refl, sym, ap, ◌∙◌, subst, arith, add-one}
use Rattle.lifeguard.specs.declared.guard.Name.{Name}
use Rattle.lifeguard.specs.declared.guard.Name.TheVariants as name
use Rattle.lifeguard.specs.declared.report.Report.{Report}
use Rattle.lifeguard.specs.Plain.{is_taint}
use Rattle.lifeguard.specs.Rules.{Rules}
use Rattle.lifeguard.specs.State.{nibble_at, span}
use Rattle.order_core.specs.Course.{course_of}
use Rattle.order_core.proofs.Known.{Known, known}
use Rattle.guard_table.specs.declared.view.View.{View}
use Rattle.idem_filter.specs.declared.filter.Check.{Check}
use Rattle.meta_lookaside.specs.LookAside as look
use Rattle.worker_laws.specs.Runs.{IsReach, IsRun, Run, before, reports_before}
use Rattle.worker_laws.specs.Reads.{directory_of}
use Rattle.worker_laws.specs.Folds.{failed}
use Rattle.worker_laws.specs.Kept.{AreCounted, AreFound, Parts}
use Rattle.worker_laws.specs.Kept as laws
use Rattle.worker_laws.proofs.Counting.{counted_fail, counted_hit, counted_pass, counted_taint, hit_right, reach_calm}
use Rattle.worker_laws.proofs.Taking.{found_next}
use Rattle.worker_laws.proofs.Turning.{found_entered}
use Rattle.worker_records.specs.declared.checks.Outcome.{Outcome}
use Rattle.worker_records.specs.declared.checks.Outcome.TheVariants.{Unchecked, Passed, Made}
use Rattle.worker_records.specs.declared.state.State.{State}
use Rattle.worker_records.specs.Checks.{bad_of, counted, counted_made, IsMissed, IsOutcome, kept_frame, NextReaches}
use Rattle.worker_records.specs.Places.{run_at}
use Rattle.worker_records.specs.States.{IsReady, parts_of}
use Rattle.worker_records.proofs.AccessLemmas.{fits, low_nibble}

is_name : (n : Name) → is_taint n ≡ true → n ≡ name.Taint
is_name name.Addr e = absurd (let f : false ≡ true = e in cc)
is_name name.Taint e = refl
is_name name.Mem e = absurd (let f : false ≡ true = e in cc)

none_found : (q : ℕ → Bool) (a n : ℕ) → ((x : ℕ) → q x ≡ false) → find q (span a n) ≡ None
none_found q a zero each = refl
none_found q a (suc n) each = rw (each a) (none_found q (suc a) n each)

-- what the checks leave of other parts
abbrev like : Parts → Parts → List Report → Parts
like parts t after = record parts { slots = t.slots; checks = t.checks; misses = t.misses; reports = after }

module _ (p : Run) (v : View) (n : ℕ) (parts : Parts) (ready : laws.IsReady p v.hart v n parts) (c : Check) (reach : IsReach p v.hart (n + 1) c) where
  k : Known (course_of p.plan)
  k = known (course_of p.plan) ready.run.lawful

  pub taint_passes : is_taint p.rules.name ≡ true → None ≡ failed p.rules (before p v.hart (n + 1)) c
  taint_passes taint = sym (none_found (λ a. p.rules.bad_access (nibble_at (before p v.hart (n + 1)).state.bytes a)) c.addr c.width
      (λ a. ready.run.laws.taint_access (is_name p.rules.name taint) (nibble_at (before p v.hart (n + 1)).state.bytes a) (low_nibble p v.hart (n + 1) ready.run c reach a)))

  -- the look-aside after the record
  pub frames_kept : (d : ℕ) → d ≡ (before p v.hart (n + 1)).words (directory_of c.addr) → AreFound p v.hart (kept_frame parts.look c.addr d) (n + 1)
  frames_kept zero is = found_next p ready.run k v.hart n parts.look (reach_calm p v.hart (n + 1) c reach) ready.kept.found
  frames_kept (suc frame) is =
      let near : c.addr < 16777216 = (fits p v.hart (n + 1) ready.run c reach).0 in
      let page : directory_of c.addr ≡ 17 + c.addr / 4096 = omega arith in
      let e : (before p v.hart (n + 1)).words (17 + c.addr / 4096) ≡ frame + 1 = sym (ap (before p v.hart (n + 1)).words page) ∙ (sym is ∙ sym (add-one frame)) in
      found_entered p ready.run k v.hart n (c.addr / 4096) frame parts.look (reach_calm p v.hart (n + 1) c reach) ready.next.within (omega arith) e ready.kept.found

module _ (rules : Rules) (v : View) (s : State) (ready : IsReady rules v s) (c : Check) (reach : NextReaches rules v s c) where
  -- what was found is the first byte that fails
  pub bad_is : (o : Outcome) → IsOutcome rules v s c o → bad_of o ≡ failed rules (before (run_at rules v) v.hart (s.taken + 1)) c
  bad_is Unchecked is = taint_passes (run_at rules v) v s.taken (parts_of s) ready c reach is
  bad_is Passed is = sym (hit_right (run_at rules v) ready.run (known _ ready.run.lawful) v.hart v s.taken (parts_of s) (reports_before (run_at rules v) v.hart (s.taken + 1 + 1)) ready.kept ready.next refl c is.0 is.1)
  bad_is (Made bad) is = is.bad_is

  counted_now : (o : Outcome) → IsOutcome rules v s c o → (after : List Report) → after ≡ reports_before (run_at rules v) v.hart (s.taken + 1 + 1)
      → AreCounted (run_at rules v) v.hart (s.taken + 1) (record (counted o c (parts_of s)) { reports = after })
  counted_now Unchecked is after told = counted_taint (run_at rules v) ready.run (known _ ready.run.lawful) v.hart v s.taken (parts_of s) after ready.kept ready.next told c reach is
  counted_now Passed is after told = counted_hit (run_at rules v) ready.run (known _ ready.run.lawful) v.hart v s.taken (parts_of s) after ready.kept ready.next told c is.0 is.1
  counted_now (Made None) is after told = counted_pass (run_at rules v) ready.run (known _ ready.run.lawful) v.hart v s.taken (parts_of s) after ready.kept ready.next told c is.check is.miss (sym is.bad_is)
  counted_now (Made (Some a)) is after told = counted_fail (run_at rules v) ready.run (known _ ready.run.lawful) v.hart v s.taken (parts_of s) after ready.kept ready.next told c is.check a is.miss (sym is.bad_is)

  -- other parts with the same filter and counts
  pub counted_then : (o : Outcome) → IsOutcome rules v s c o → (t : Parts) (after : List Report) → after ≡ reports_before (run_at rules v) v.hart (s.taken + 1 + 1)
      → t.slots ≡ (counted o c (parts_of s)).slots → t.checks ≡ (counted o c (parts_of s)).checks → t.misses ≡ (counted o c (parts_of s)).misses → t.reports ≡ after → AreCounted (run_at rules v) v.hart (s.taken + 1) t
  counted_then o is t after told slots checks misses reports =
      let are = counted_now o is after told in
      record {
        slots = slots ∙ are.slots;
        checks = checks ∙ are.checks;
        misses = misses ∙ are.misses;
        reports = reports ∙ are.reports;
      }

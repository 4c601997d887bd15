-- The lines of a run's log, as they come step by step.
use Rattle.std.proofs.Common.{◌≡◌, ℕ, zero, suc, ◌+◌, ◌<◌, ◌≤◌, ◌^◌, List, [], ◌∷◌, ◌++◌, append-nil, length, length-append, drop, get_or, slice_get, slice_index, Some, refl, sym, ap, ◌∙◌, subst, arith}
use mathlib.Core.Option.{some, some-injective, some-ne-none}
use lib.ListN.{get_elem?}
use Rattle.pl_event.specs.declared.event.Event.{Event}
use Rattle.pl_event.specs.declared.fed.Fed.{Fed}
use Rattle.pl_event.specs.declared.heads.Heads.{Heads}
use Rattle.pl_event.specs.declared.log.Line.{Line}
use Rattle.pl_event.specs.declared.log.Log.{Log}
use Rattle.pl_event.specs.Feeds.{fed_at, feds_from}
use Rattle.pl_event.specs.Heads.{IsNext, Tells}
use Rattle.pl_event.specs.Numbers.{events_of, hart_of}
use Rattle.pl_event.specs.Records.{records_before}
use Rattle.pl_event.specs.Runs.{IsRunLog}
use Rattle.pl_event.proofs.Before.{drop_here, room}
use Rattle.core_sim.specs.declared.job.Job.{Job}
use Rattle.core_sim.specs.RunEvents.{events_of_run}
use Rattle.run_log.specs.Logs.{IsStartOf}
use Rattle.run_record.specs.declared.recording.Recording.{Recording}
use Rattle.run_record.specs.Recording.{IsRecording}
use Rattle.job_watch.specs.Runs.{lines_from}
use Rattle.job_watch.specs.Sources.{IsAt, IsFirst}

at_first : (ys zs : List Line) (i : ℕ) (l : Line) → get_elem? ys i ≡ some l → get_elem? (ys ++ zs) i ≡ some l
at_first [] zs i l at = absurd (some-ne-none l (sym at))
at_first (y ∷ ys) zs zero l at = at
at_first (y ∷ ys) zs (suc i) l at = at_first ys zs i l at

at_second : (xs ys : List Line) (i : ℕ) (l : Line) → get_elem? ys i ≡ some l → get_elem? (xs ++ ys) (length xs + i) ≡ some l
at_second [] ys i l at = subst (λ (n : ℕ). get_elem? ys n ≡ some l) (let e : i ≡ 0 + i = omega arith in e) at
at_second (x ∷ xs) ys i l at = subst (λ (n : ℕ). get_elem? (x ∷ (xs ++ ys)) n ≡ some l) (let e : suc (length xs + i) ≡ suc (length xs) + i = omega arith in e) (at_second xs ys i l at)

at_append : (xs ys zs : List Line) (i : ℕ) (l : Line) → get_elem? ys i ≡ some l → get_elem? ((xs ++ ys) ++ zs) (length xs + i) ≡ some l
at_append xs ys zs i l at = at_first (xs ++ ys) zs (length xs + i) l (at_second xs ys i l at)

pub at_index : (xs : List Line) (i : ℕ) (x : Line) → i < length xs → x ≡ get_or xs i x → get_elem? xs i ≡ some x
at_index [] i x low e = absurd (omega arith)
at_index (y ∷ xs) zero x low e = ap some (sym e)
at_index (y ∷ xs) (suc i) x low e = at_index xs i x (omega arith) e

-- the next line of a step is the next one of the log
pub record IsNextLine (log : Log) (at : ℕ) (heads : Heads) (line : Line) : Type 0 where
  pub there : get_elem? log.lines at ≡ some line
  pub next : IsNext log.lines at (hart_of line.what) line
  pub room : (hart_of line.what < 8) × (slice_index heads.records (hart_of line.what) + 1 < 2 ^ 32) × (heads.place + 1 < 2 ^ 32) × (slice_index heads.events (hart_of line.what) + 1 < 2 ^ 32)

module _ (job : Job) (log : Log) (at : ℕ) (recording : Recording) (heads : Heads) (step : List Line) (handed : ℕ) (is : IsAt job log at recording heads step handed)
    (start : IsStartOf (is.before ++ step) log.lines) where
  module _ (line : Line) (here : get_elem? step handed ≡ some line) (run : IsRunLog log × (length log.lines ≤ 2000000)) where
    there : get_elem? log.lines at ≡ some line
    there = subst (λ (z : List Line × ℕ). get_elem? z.0 z.1 ≡ some line) (λ d. (sym start.all_are d, sym is.place d)) (at_append is.before step start.later handed line here)

    pub next_line : IsNextLine log at heads line
    next_line = record {
      there = there;
      next = record { at = there; hart = refl; number = refl };
      room = room log.harts log.lines run.0.flow run.0.opening.few (let few : length log.lines ≤ 2000000 = run.1 in omega arith) heads at line is.tells there;
    }

    pub first_line : (fed : Fed) → fed ≡ fed_at log.lines at line → IsFirst log at fed
    first_line fed same = ap (feds_from log.lines at) (drop_here log.lines at line there) ∙ ap (λ (z : Fed). z ∷ feds_from log.lines (suc at) (drop (suc at) log.lines)) (sym same)

  module _ (low : handed < length step) (most : length (is.before ++ step) ≤ 2000000) where
    pub handed_one : (after : Heads) → Tells after log.lines (at + 1) → IsAt job log (suc at) recording after step (handed + 1)
    handed_one after tells = record {
      of_run = is.of_run;
      before = is.before;
      recorded = is.recorded;
      within = omega arith;
      place = omega (arith, is.place);
      few = omega (arith, is.place, length-append is.before step);
      tells = subst (Tells after log.lines) (let e : at + 1 ≡ suc at = omega arith in e) tells;
    }

  -- the lines of one step more
  pub stepped : (new : Recording) (more : List Line) → IsRecording job ((is.before ++ step) ++ more) new → handed ≡ length step → IsAt job log at new heads more 0
  stepped new more recorded all = record {
    of_run = is.of_run;
    before = is.before ++ step;
    recorded = recorded;
    within = omega arith;
    place = omega (arith, is.place, length-append is.before step);
    few = is.few;
    tells = is.tells;
  }

  pub at_end : is.before ++ step ≡ log.lines → handed ≡ length step → at ≡ length log.lines
  at_end whole all = omega (arith, is.place, length-append is.before step, ap (λ (ls : List Line). length ls) whole)

-- each step has a line: the events of the lines so far are as many as the steps
pub some_lines : (job : Job) (made more : List Line) (old new : Recording) (a : IsRecording job made old) (b : IsRecording job (made ++ more) new)
    → events_of made ≡ events_of_run a.entries → events_of (made ++ more) ≡ events_of_run b.entries
    → length (events_of_run a.entries) ≡ length a.entries → length (events_of_run b.entries) ≡ length b.entries → new.machine.steps ≡ suc old.machine.steps → 0 < length more
some_lines job made [] old new a b x y m n further =
    let same : length (events_of made) ≡ length (events_of (made ++ [])) = ap (λ (ls : List Line). length (events_of ls)) (sym (append-nil made)) in
    absurd (omega (arith, same, ap (λ (es : List Event). length es) x, ap (λ (es : List Event). length es) y, m, n, further, a.stands.steps, b.stands.steps))
some_lines job made (l ∷ more) old new a b x y m n further = omega arith

pub none_left : (log : Log) (at : ℕ) → at ≡ length log.lines → lines_from log at ≡ []
none_left log at e = ap (λ (n : ℕ). feds_from log.lines n (drop n log.lines)) e ∙ ap (feds_from log.lines (length log.lines)) (dropped log.lines)
  where
    dropped : (xs : List Line) → drop (length xs) xs ≡ []
    dropped [] = refl
    dropped (x ∷ xs) = dropped xs

-- the same of a log that is this one
module _ (a log : Log) (same : a ≡ log) (at : ℕ) where
  pub first_of : (fed : Fed) → IsFirst log at fed → lines_from a at ≡ fed ∷ lines_from a (at + 1)
  first_of fed first = subst (λ (z : Log). lines_from z at ≡ fed ∷ lines_from z (at + 1)) (sym same)
      (first ∙ ap (λ (n : ℕ). fed ∷ lines_from log n) (let e : suc at ≡ at + 1 = omega arith in e))

  pub none_of : lines_from log at ≡ [] → lines_from a at ≡ []
  none_of none = subst (λ (z : Log). lines_from z at ≡ []) (sym same) none

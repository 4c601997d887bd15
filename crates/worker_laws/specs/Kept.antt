-- What a worker keeps from record to record.
use Rattle.std.specs.Prelude.{◌≡◌, ℕ, ◌+◌, ◌≤◌, List, [], length, take, slice_index, Some}
use Rattle.pl_event.specs.declared.fed.Fed.{Fed}
use Rattle.pl_event.specs.Feeds.{feds_of}
use Rattle.lifeguard.specs.declared.report.Report.{Report}
use Rattle.order_core.specs.Core.{IsMet}
use Rattle.order_core.specs.Counts.{writes_before}
use Rattle.order_core.specs.Course.{course_of}
use Rattle.inherit_track.specs.declared.state.Held.{Held}
use Rattle.inherit_track.specs.declared.state.RegState.{RegState}
use Rattle.inherit_track.specs.declared.state.RegState.TheVariants as reg
use Rattle.idem_filter.specs.Filter as filter
use Rattle.meta_lookaside.specs.LookAside as look
use Rattle.guard_table.specs.declared.view.View.{View}
use Rattle.shadow_frames.specs.Words.{directory_word}
use Rattle.worker_laws.specs.Runs.{IsRun, Run, size, reports_before, Lasts}
use Rattle.worker_laws.specs.Reads.{AreRight}
use Rattle.worker_laws.specs.Folds.{slots_at, checks_at, misses_at}

-- beside its seat: the states of its registers, the slots of its look-aside and of its filter, how many checks and
-- misses it has counted, and its reports
pub record Parts : Type 0 where
  pub states : ℕ → RegState
  pub look : look.Slots
  pub slots : filter.Slots
  pub checks : ℕ
  pub misses : ℕ
  pub reports : List Report

-- all registers are clear, and nothing else is there yet
abbrev pub first_parts : Parts
first_parts = record {
  states = λ r. reg.Known 0;
  look = look.empty;
  slots = filter.empty;
  checks = 0;
  misses = 0;
  reports = [];
}

-- no register is held
abbrev pub HoldsNothing : Parts → Type 0
HoldsNothing parts = (r : ℕ) (from : Held) → parts.states r ≡ reg.Held from → ⊥

module _ (p : Run) (h : ℕ) where
  -- what is found for a page is its frame, until something is flushed
  abbrev pub AreFound : look.Slots → ℕ → Type 0
  AreFound slots n = (page frame : ℕ) → look.found slots page ≡ Some frame
      → Lasts p h n (λ q. q.words (directory_word page) ≡ frame + 1)

  -- the worker has taken n records, and performed their writes and no other. What they need was seen, and the progress
  -- word is at most 64 records below
  pub record HasTaken (v : View) (n : ℕ) : Type 0 where
    pub within : n ≤ size p h
    pub written : v.written ≡ writes_before (course_of p.plan) h (n + 1) 0
    pub met : IsMet (course_of p.plan) (slice_index v.seen) h n
    pub told : v.progress ≤ n
    pub lag : n ≤ v.progress + 64

  -- filter, counts and reports are those of the first n records
  pub record AreCounted (n : ℕ) (parts : Parts) : Type 0 where
    pub slots : parts.slots ≡ slots_at p h n
    pub checks : parts.checks ≡ checks_at p h n
    pub misses : parts.misses ≡ misses_at p h n
    pub reports : parts.reports ≡ reports_before p h (n + 1)

  -- all that holds of a worker of hart h that has taken n records
  pub record Kept (v : View) (n : ℕ) (parts : Parts) : Type 0 where
    pub taken : HasTaken v n
    pub right : AreRight p h v n (n + 1) parts.states
    pub found : AreFound parts.look n
    pub counted : AreCounted n parts

  -- the next record may be taken: what it needs was seen, and the progress word is less than 64 records below
  pub record IsNext (v : View) (n : ℕ) : Type 0 where
    pub within : n + 1 ≤ size p h
    pub met : IsMet (course_of p.plan) (slice_index v.seen) h (n + 1)
    pub near : n + 1 ≤ v.progress + 64

  -- a worker of a run that may take its record n + 1
  pub record IsReady (v : View) (n : ℕ) (parts : Parts) : Type 0 where
    pub run : IsRun p
    pub kept : Kept v n parts
    pub next : IsNext v n

  -- what was fed begins the stream of the hart
  abbrev pub HasFed : List Fed → Type 0
  HasFed fed = take (length fed) (feds_of h p.plan.log.lines) ≡ fed

-- What a worker keeps beside its seat.
use Rattle.std.specs.Prelude.{◌≡◌, ℕ, ◌+◌, ◌-◌, ◌≤◌, ◌++◌, List, vec_len, vec_capacity}
use Rattle.pl_event.specs.declared.event.Kind.{Kind}
use Rattle.pl_event.specs.Valid.{HasValidFields}
use Rattle.lifeguard.specs.declared.report.EventPlace.{EventPlace}
use Rattle.lifeguard.specs.declared.report.Report.{Report}
use Rattle.lifeguard.specs.Plain.{bad_sent, bad_touch, reports_of}
use Rattle.lifeguard.specs.Rules.{Rules}
use Rattle.inherit_track.specs.States.{state_in}
use Rattle.guard_table.specs.declared.view.View.{View}
use Rattle.worker_laws.specs.Runs.{IsKind, IsRun, before, reports_before}
use Rattle.worker_laws.specs.Kept as laws
use Rattle.worker_laws.specs.Kept.{Kept, Parts}
use Rattle.worker_records.specs.declared.state.Found.{Found}
use Rattle.worker_records.specs.declared.state.State.{State}
use Rattle.worker_records.specs.Places.{run_at}
use Rattle.worker_records.specs.Registers.{registers_of}

abbrev pub parts_of : State → Parts
parts_of s = record {
  states = registers_of (state_in s.tracker);
  look = s.look;
  slots = s.filter;
  checks = s.checks;
  misses = s.misses;
  reports = s.reports.items;
}

-- for how many reports there is room
abbrev pub spare : State → ℕ
spare s = vec_capacity s.reports - vec_len s.reports

module _ (rules : Rules) (v : View) (s : State) where
  -- all that is kept is right after the records taken
  pub record IsKept : Type 0 where
    pub run : IsRun (run_at rules v)
    pub kept : Kept (run_at rules v) v.hart v s.taken (parts_of s)

  -- and the next record may be taken
  abbrev pub IsReady : Type 0
  IsReady = laws.IsReady (run_at rules v) v.hart v s.taken (parts_of s)

  -- the next record is an event of this kind
  pub record IsNext (kind : Kind) : Type 0 where
    pub ready : IsReady
    pub is : IsKind (run_at rules v) v.hart (s.taken + 1) kind

-- the next record of s, an event of this kind, is made, up to its reports: t is left, with the view w. This was found
pub record IsMade (rules : Rules) (v w : View) (s t : State) (kind : Kind) (found : Found) : Type 0 where
  pub kept : (after : List Report) → after ≡ reports_before (run_at rules v) v.hart (s.taken + 1 + 1)
      → Kept (run_at rules v) v.hart w (s.taken + 1) (record (parts_of t) { reports = after })
  pub taken : t.taken ≡ s.taken
  pub reports : t.reports ≡ s.reports
  pub touched : found.touched ≡ bad_touch rules (before (run_at rules v) v.hart (s.taken + 1)).state.bytes kind
  pub sent : found.sent ≡ bad_sent rules (before (run_at rules v) v.hart (s.taken + 1)).state.bytes kind

-- The events of a run in executed order, and which event may follow others.
use Rattle.std.specs.Prelude.{◌≡◌, ℕ, Bool, false, fold, List, [], ◌∷◌, ◌++◌, All}
use Rattle.pl_event.specs.declared.event.Event.{Event}
use Rattle.pl_event.specs.Mapping.{mapped_by, KeepsPages}
use Rattle.pl_event.specs.OpeningPages.{is_in_runs}
use Rattle.pl_event.specs.Runs.{ends_hart}
use Rattle.pl_event.specs.Valid.{IsValidEvent}
use Rattle.core_sim.specs.declared.job.Job.{Job}
use Rattle.core_sim.specs.Entries.{Entry}
use Rattle.core_sim.specs.Start.{start_runs}

-- the events of an entry, in order: one, of what the step came to
abbrev pub events_of_entry : Entry → List Event
events_of_entry e = record { hart = e.hart; kind = e.act.kind } ∷ []

-- the events of a run, or of a prefix of it, the earliest first
abbrev pub events_of_run : List Entry → List Event
events_of_run [] = []
events_of_run (e ∷ before) = events_of_run before ++ events_of_entry e

-- which pages are mapped after these events of a job
abbrev pub mapped_after : Job → List Event → ℕ → Bool
mapped_after job events = fold (λ mapped event. mapped_by mapped event.kind) (is_in_runs (start_runs job)) events

-- an event may follow these ones of a job: it is valid, its hart has not ended, and it
-- maps and unmaps pages that may be
pub record MayFollow (job : Job) (before : List Event) (event : Event) : Type 0 where
  pub valid : IsValidEvent event job.harts
  pub live : All (λ earlier. earlier.hart ≡ event.hart → ends_hart earlier.kind ≡ false) before
  pub maps : KeepsPages (mapped_after job before) event.kind

-- events that come after others, each of which may follow those before it
abbrev pub AllFollow : Job → List Event → List Event → Type 0
AllFollow job before [] = Unit {0}
AllFollow job before (event ∷ later) = MayFollow job before event × AllFollow job (before ++ event ∷ []) later

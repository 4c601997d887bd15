-- Which events may follow which in a run.
use Rattle.std.specs.Prelude.{◌≡◌, ℕ, ◌∷◌, ◌++◌, All, Bool, false, List, fold}
use Rattle.pl_event.specs.declared.event.Event.{Event}
use Rattle.pl_event.specs.declared.log.PageRun.{PageRun}
use Rattle.pl_event.specs.Mapping.{mapped_by, KeepsPages}
use Rattle.pl_event.specs.OpeningPages.{is_in_runs}
use Rattle.pl_event.specs.Runs.{ends_hart}
use Rattle.pl_event.specs.Valid.{IsValidEvent}

-- which pages are mapped after some events
abbrev pub pages_after : (ℕ → Bool) → List Event → ℕ → Bool
pages_after mapped events = fold (λ before event. mapped_by before event.kind) mapped events

-- an event may follow these events of a run of so many harts with these pages at the start
pub record FollowsEvents (harts : ℕ) (pages : List PageRun) (before : List Event) (event : Event) : Type 0 where
  pub valid : IsValidEvent event harts
  pub live : All (λ a. a.hart ≡ event.hart → ends_hart a.kind ≡ false) before
  pub maps : KeepsPages (pages_after (is_in_runs pages) before) event.kind

-- each event may follow those before it
abbrev pub AllFollow : ℕ → List PageRun → List Event → Type 0
AllFollow harts pages events = (before : List Event) (event : Event) (after : List Event) →
    events ≡ before ++ event ∷ after → FollowsEvents harts pages before event

-- What a recorder knows of the events so far.
use Rattle.std.specs.Prelude.{◌≡◌, ℕ, ◌+◌, ◌<◌, ◌≤◌, ◌++◌, All, List, length}
use Rattle.pl_base.specs.declared.layout.TheConstants.{MAX_HARTS, MAX_LINES, MAX_RECORDS}
use Rattle.pl_event.specs.declared.event.Event.{Event}
use Rattle.pl_event.specs.declared.log.Line.{Line}
use Rattle.pl_event.specs.declared.log.Record.{Record}
use Rattle.pl_event.specs.Edges.{no_arcs, IsFlow}
use Rattle.pl_event.specs.Runs.{IsSoundLine}
use Rattle.pl_event.specs.Valid.{HasValidEvent, IsValidEvent}
use Rattle.conflict_alerts.specs.declared.placer.Placer.{Placer}
use Rattle.conflict_alerts.specs.Placer.{HasPlaced}
use Rattle.conflict_alerts.specs.Placing.{placed}
use Rattle.arc_capture.specs.declared.marker.Marker.{Marker}
use Rattle.arc_capture.specs.Marker.{HasMarked}

-- these are the events so far, and the lines of them
pub record HasRecorded (placer : Placer) (marker : Marker) (size : ℕ)
    (events : List Event) (lines : List Line) : Type 0 where
  pub harts : placer.harts ≤ MAX_HARTS
  pub same : marker.reducer.harts ≡ placer.harts
  pub inside : All (λ event. event.hart < placer.harts) events
  pub seen : HasPlaced placer events
  pub marked : HasMarked marker size (placed placer.harts events) lines

-- the event may be the next one
pub record MayFeed (placer : Placer) (marker : Marker) (size : ℕ)
    (events : List Event) (lines : List Line) (event : Event) : Type 0 where
  pub has : HasRecorded placer marker size events lines
  pub few : length events < MAX_RECORDS
  pub valid : IsValidEvent event placer.harts

-- the event of the record may be the next one; a notice has none
pub record MayRecord (placer : Placer) (marker : Marker) (size : ℕ)
    (events : List Event) (lines : List Line) (what : Record) : Type 0 where
  pub has : HasRecorded placer marker size events lines
  pub few : length events < MAX_RECORDS
  pub valid : HasValidEvent placer.harts what

-- these lines may be the next ones
pub record MayMarkAll (marker : Marker) (size : ℕ) (base lines more : List Line) : Type 0 where
  pub has : HasMarked marker size base lines
  pub few : length base + length more ≤ MAX_LINES
  pub harts : marker.reducer.harts ≤ MAX_HARTS
  pub bare : All (λ line. line.arcs ≡ no_arcs) more
  pub sound : All (IsSoundLine MAX_HARTS) more
  pub flow : IsFlow marker.reducer.harts (base ++ more)

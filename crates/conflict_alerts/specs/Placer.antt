-- What a placer knows of the events so far.
use Rattle.std.specs.Prelude.{◌≡◌, ℕ, ◌<◌, ◌≤◌, List, length, slice_index}
use Rattle.pl_base.specs.declared.layout.TheConstants.{MAX_HARTS, MAX_RECORDS}
use Rattle.pl_event.specs.declared.event.Event.{Event}
use Rattle.pl_event.specs.declared.log.Line.{Line}
use Rattle.conflict_alerts.specs.declared.placer.Placer.{Placer}
use Rattle.conflict_alerts.specs.Placing.{count_in, placed}

-- the placer counts the records of each hart in the lines
abbrev pub Counts : List ℕ → List Line → Type 0
Counts records lines = (h : ℕ) → h < MAX_HARTS → slice_index records h ≡ count_in h lines

-- these are the events that were placed
abbrev pub HasPlaced : Placer → List Event → Type 0
HasPlaced placer events = Counts placer.records (placed placer.harts events)

-- these events were placed, and there is room for one more of a hart
pub record MayPlace (placer : Placer) (events : List Event) (event : Event) : Type 0 where
  pub has : HasPlaced placer events
  pub few : length events < MAX_RECORDS
  pub hart : event.hart < placer.harts
  pub harts : placer.harts ≤ MAX_HARTS

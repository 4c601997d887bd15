-- The records of a log by hart, and how they are counted.
use Rattle.std.specs.Prelude.{ℕ, suc, Bool, ◌==◌, List, [], ◌∷◌, Option, Some, None, count_by, if◌then◌else◌}
use Rattle.std.specs.List.{filter_map}
use Rattle.pl_event.specs.declared.event.Event.{Event}
use Rattle.pl_event.specs.declared.log.Line.{Line}
use Rattle.pl_event.specs.declared.log.Record.{Record}
use Rattle.pl_event.specs.declared.log.Record.TheVariants as entry

-- the hart of whose stream a record is
abbrev pub hart_of : Record → ℕ
hart_of (entry.Event event) = event.hart
hart_of (entry.Notice hart point) = hart

abbrev pub is_of : ℕ → Line → Bool
is_of hart line = hart_of line.what == hart

-- how many records of a hart a list of lines has
abbrev pub records_of : ℕ → List Line → ℕ
records_of hart lines = count_by (is_of hart) lines

-- the event of a record that is no notice
abbrev pub event_of : Record → Option Event
event_of (entry.Event event) = Some event
event_of (entry.Notice hart point) = None

-- the events in executed order, without notices
abbrev pub events_of : List Line → List Event
events_of lines = filter_map (λ line. event_of line.what) lines

-- how many of the events are of a hart
abbrev pub events_on : ℕ → List Event → ℕ
events_on hart events = count_by (λ event. event.hart == hart) events

-- the positions, from `at` on, of a hart's records
abbrev pub positions_from : ℕ → ℕ → List Line → List ℕ
positions_from hart at [] = []
positions_from hart at (line ∷ lines) =
    if is_of hart line then at ∷ positions_from hart (suc at) lines else positions_from hart (suc at) lines

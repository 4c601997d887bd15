-- The lines of a log as a worker takes them.
use Rattle.std.specs.Prelude.{ℕ, suc, ◌+◌, List, [], ◌∷◌, length, take, filter}
use Rattle.pl_event.specs.declared.log.Line.{Line}
use Rattle.pl_event.specs.declared.log.Record.{Record}
use Rattle.pl_event.specs.declared.log.Record.TheVariants as entry
use Rattle.pl_event.specs.declared.fed.Fed.{Fed}
use Rattle.pl_event.specs.Numbers.{hart_of, is_of, events_of, events_on}
use Rattle.pl_event.specs.Records.{records_before}
use Rattle.pl_event.specs.Needs.{needs_of}

-- how many events there are up to position i, if an event is there
abbrev pub place_at : List Line → ℕ → Record → ℕ
place_at lines i (entry.Event event) = length (events_of (take (i + 1) lines))
place_at lines i (entry.Notice hart point) = 0

-- how many of them are of its hart
abbrev pub event_number_at : List Line → ℕ → Record → ℕ
event_number_at lines i (entry.Event event) = events_on event.hart (events_of (take (i + 1) lines))
event_number_at lines i (entry.Notice hart point) = 0

-- a line at position i
abbrev pub fed_at : List Line → ℕ → Line → Fed
fed_at lines i line = record {
  place = place_at lines i line.what;
  event_number = event_number_at lines i line.what;
  line = line;
  needs = needs_of lines (hart_of line.what) (records_before (hart_of line.what) lines i + 1);
}

abbrev pub feds_from : List Line → ℕ → List Line → List Fed
feds_from lines i [] = []
feds_from lines i (line ∷ rest) = fed_at lines i line ∷ feds_from lines (suc i) rest

-- all lines, in executed order
abbrev pub feds : List Line → List Fed
feds lines = feds_from lines 0 lines

-- the lines of a hart, in order
abbrev pub feds_of : ℕ → List Line → List Fed
feds_of hart lines = filter (λ fed. is_of hart fed.line) (feds lines)

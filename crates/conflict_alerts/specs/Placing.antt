-- The log of some events with the notices of their alert events.
use Rattle.std.specs.Prelude.{◌≡◌, ◌≢◌, ℕ, ◌+◌, ◌<◌, ◌==◌, zero, suc, [], ◌∷◌, ◌++◌, IsTrue, List, fold, length, if◌then◌else◌}
use mathlib.Core.Option.{some}
use lib.ListN.{get_elem?}
use Rattle.pl_event.specs.declared.event.Event.{Event}
use Rattle.pl_event.specs.declared.event.Kind.{Kind}
use Rattle.pl_event.specs.declared.log.Line.{Line}
use Rattle.pl_event.specs.declared.log.Record.TheVariants as entry
use Rattle.pl_event.specs.Alerts.{is_alert_kind}
use Rattle.pl_event.specs.Conflicts.{HasNotice}
use Rattle.pl_event.specs.Edges.{no_arcs, IsFlow, IsNotice}
use Rattle.pl_event.specs.Records.{records_before, IsEvent}
use Rattle.pl_event.specs.Runs.{IsAlert}
pub use Rattle.pl_event.specs.ShortLogs.{notice_line}

abbrev pub event_line : Event → Line
event_line event = record { what = entry.Event event; arcs = no_arcs }

-- what hart u is told of record n of hart h: nothing in that hart itself
abbrev pub notice_to : ℕ → ℕ → ℕ → List Line
notice_to u h n = if u == h then [] else notice_line u h n ∷ []

-- a notice of record n of hart h in each hart below a bound but in h itself, by rising hart
abbrev pub notices_below : ℕ → ℕ → ℕ → List Line
notices_below h n zero = []
notices_below h n (suc u) = notices_below h n u ++ notice_to u h n

-- below which hart all are told of an event: every hart of an alert event, none of another
abbrev pub told_below : ℕ → Kind → ℕ
told_below harts kind = if is_alert_kind kind then harts else 0

-- the notices of an event that is record n of its hart: none, if it is no alert event
abbrev pub notices_of : ℕ → ℕ → Event → List Line
notices_of harts n event = notices_below event.hart n (told_below harts event.kind)

-- the lines of an event that is record n of its hart: before an alert event all other harts have a notice of it
abbrev pub lines_of : ℕ → ℕ → Event → List Line
lines_of harts n event = notices_of harts n event ++ event_line event ∷ []

-- how many records a hart has
abbrev pub count_in : ℕ → List Line → ℕ
count_in h lines = records_before h lines (length lines)

-- the lines with those of one event more
abbrev pub with_event : ℕ → List Line → Event → List Line
with_event harts lines event = lines ++ lines_of harts (count_in event.hart lines + 1) event

-- the lines of all events in order
abbrev pub placed : ℕ → List Event → List Line
placed harts events = fold (with_event harts) [] events

-- the number that the next record of a hart has after the events
abbrev pub next_number : ℕ → List Event → ℕ → ℕ
next_number harts events h = count_in h (placed harts events) + 1

-- what arcs and notices keep, and which notices there are: each is of an alert event that comes, and each alert event
-- has one in each other hart of the run; no line has an arc
pub record AreNoticed (harts : ℕ) (lines : List Line) : Type 0 where
  pub flow : IsFlow harts lines
  pub named : (h k u n : ℕ) → IsNotice lines h k u n → IsAlert lines u n
  pub told : (i n : ℕ) (a : Event) → IsEvent lines i n a → IsTrue (is_alert_kind a.kind) →
      (h : ℕ) → h < harts → h ≢ a.hart → HasNotice lines h a.hart n
  pub bare : (i : ℕ) (line : Line) → get_elem? lines i ≡ some line → line.arcs ≡ no_arcs

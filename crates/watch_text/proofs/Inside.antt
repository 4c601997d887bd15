-- The events of a run are on its harts.
use Rattle.std.proofs.Common.{◌≡◌, ℕ, ◌<◌, ◌==◌, List, [], ◌∷◌, Option}
use Rattle.std.specs.List.{All, AllByRecursion, cons_option}
use Rattle.std.proofs.lemmas.List.Elements.{All-from_recursion, recursion_from_All}
use Rattle.pl_event.specs.declared.event.Event.{Event}
use Rattle.pl_event.specs.declared.log.Line.{Line}
use Rattle.pl_event.specs.declared.log.Log.{Log}
use Rattle.pl_event.specs.declared.log.Record.{Record}
use Rattle.pl_event.specs.declared.log.Record.TheVariants as entry
use Rattle.pl_event.specs.Numbers.{event_of, events_of}
use Rattle.pl_event.specs.Runs.{IsRunLog, IsSoundLine, IsSoundRecord}

abbrev IsInside : ℕ → Event → Type 0
IsInside harts event = event.hart < harts

first_inside : (harts : ℕ) (arcs : List (Option ℕ)) (what : Record) (rest : List Event) → IsSoundRecord harts arcs what
    → AllByRecursion (IsInside harts) rest → AllByRecursion (IsInside harts) (cons_option (event_of what) rest)
first_inside harts arcs (entry.Event event) rest sound all = (sound.0, all)
first_inside harts arcs (entry.Notice hart point) rest sound all = all

all_inside : (harts : ℕ) (lines : List Line) → AllByRecursion (IsSoundLine harts) lines
    → AllByRecursion (IsInside harts) (events_of lines)
all_inside harts [] all = tt
all_inside harts (line ∷ lines) all =
    first_inside harts line.arcs line.what (events_of lines) all.0.1 (all_inside harts lines all.1)

pub inside : (log : Log) → IsRunLog log → All (λ event. event.hart < log.harts) (events_of log.lines)
inside log run =
    All-from_recursion (IsInside log.harts) (events_of log.lines)
    (all_inside log.harts log.lines (recursion_from_All (IsSoundLine log.harts) log.lines run.sound))

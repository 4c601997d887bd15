-- The operations of the lines of a log, each from the plain state before it.
use Rattle.std.specs.Prelude.{ℕ, List, [], take, Option, Some, None, slice_get}
use Rattle.pl_event.specs.declared.log.Line.{Line}
use Rattle.pl_event.specs.declared.log.Log.{Log}
use Rattle.pl_event.specs.declared.log.Record.{Record}
use Rattle.pl_event.specs.declared.log.Record.TheVariants as entry
use Rattle.pl_event.specs.Numbers.{events_of}
use Rattle.lifeguard.specs.Rules.{Rules}
use Rattle.lifeguard.specs.State.{State}
use Rattle.lifeguard.specs.Plain.{plain_result}
use Rattle.order_core.specs.Shapes.{Shape}
use Rattle.shadow_layout.specs.Operations.{shapes}

-- the plain state before the line at position i
abbrev pub state_before : Rules → Log → ℕ → State
state_before rules log i = plain_result rules log.pages (events_of (take i log.lines))

-- an event's operations; a notice has none
abbrev pub record_shapes : Rules → ℕ → State → (ℕ → ℕ) → Record → List Shape
record_shapes rules size state w (entry.Event event) = shapes rules size event.hart state.masks w event.kind
record_shapes rules size state w (entry.Notice hart point) = []

abbrev pub line_shapes : Rules → ℕ → State → (ℕ → ℕ) → Option Line → List Shape
line_shapes rules size state w None = []
line_shapes rules size state w (Some line) = record_shapes rules size state w line.what

-- the operations of the line at position i, where the words are w
abbrev pub log_shapes : Rules → Log → ℕ → (ℕ → ℕ) → List Shape
log_shapes rules log i w = line_shapes rules log.block (state_before rules log i) w (slice_get log.lines i)

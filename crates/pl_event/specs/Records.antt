-- The records of a log by hart and number.
use Rattle.std.specs.Prelude.{◌≡◌, ℕ, zero, suc, ◌+◌, ◌-◌, ◌==◌, List, [], ◌∷◌, Option, Some, None, if◌then◌else◌}
use mathlib.Core.Option.{some}
use lib.ListN.{get_elem?}
use Rattle.pl_event.specs.declared.event.Event.{Event}
use Rattle.pl_event.specs.declared.log.Line.{Line}
use Rattle.pl_event.specs.declared.log.Record.TheVariants as entry
use Rattle.pl_event.specs.Numbers.{hart_of, is_of}

-- how many of the first i lines are of a hart
abbrev pub records_before : ℕ → List Line → ℕ → ℕ
records_before hart [] i = 0
records_before hart (line ∷ lines) zero = 0
records_before hart (line ∷ lines) (suc i) = (if is_of hart line then 1 else 0) + records_before hart lines i

-- the line at position i is record m of hart h
pub record IsRecord (lines : List Line) (i h m : ℕ) (line : Line) : Type 0 where
  pub at : get_elem? lines i ≡ some line
  pub hart : hart_of line.what ≡ h
  pub number : records_before h lines i + 1 ≡ m

-- the event at position i is record n of its hart
abbrev pub IsEvent : List Line → ℕ → ℕ → Event → Type 0
IsEvent lines i n event = (line : Line) × IsRecord lines i event.hart n line × (line.what ≡ entry.Event event)

-- record m of hart h, counted from 1
abbrev pub record_of : List Line → ℕ → ℕ → Option Line
record_of [] h m = None
record_of (line ∷ lines) h m =
    if is_of h line then (if m == 1 then Some line else record_of lines h (m - 1)) else record_of lines h m

-- which line has record m of hart h, counted from 1; what is no record comes before or after all
abbrev pub line_number : List Line → ℕ → ℕ → ℕ
line_number [] h m = m
line_number (line ∷ lines) h zero = 0
line_number (line ∷ lines) h (suc m) = suc (if is_of h line then line_number lines h m else line_number lines h (suc m))

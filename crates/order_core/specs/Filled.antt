-- Plans whose operations are filled from the words, record by record.
use Rattle.std.specs.Prelude.{ℕ, zero, suc, ◌^◌, ◌<◌, List, [], length, slice_index}
use Rattle.pl_event.specs.declared.log.Log.{Log}
use Rattle.pl_event.specs.Conflicts.{IsOrdered}
use Rattle.pl_event.specs.Runs.{IsRunLog}
use Rattle.pl_event.specs.Records.{line_number}
use Rattle.order_core.specs.declared.course.Op.{Op}
use Rattle.order_core.specs.Course.{Planned, course_of}
use Rattle.order_core.specs.Lawful.{IsTable, HasPaths}
use Rattle.order_core.specs.Shapes.{Shape, AreFitting, AreSoundShapes, fill, after_shapes}

-- `shapes i w` are the operations of the record at position i where the words are w
module _ (shapes : ℕ → (ℕ → ℕ) → List Shape) (opening : List ℕ) where
  -- the words after the first i records
  abbrev pub words_after : ℕ → (ℕ → ℕ)
  words_after zero = slice_index opening
  words_after (suc i) = after_shapes (words_after i) (shapes i (words_after i))

  -- the operations of record i of the log, counted from 1
  abbrev pub operations_at : ℕ → List Op
  operations_at zero = []
  operations_at (suc i) = fill (words_after i) (shapes i (words_after i))

  -- the writes of the first n records leave the lanes that they do not name
  abbrev pub AllFit : ℕ → Type 0
  AllFit n = (i : ℕ) → i < n → AreFitting (shapes i (words_after i))

  -- each of the first n records has sound operations, fewer than 2^32
  abbrev pub AllSound : ℕ → Type 0
  AllSound n = (i : ℕ) → i < n
      → AreSoundShapes (length opening) (shapes i (words_after i)) × (length (shapes i (words_after i)) < 2 ^ 32)

-- the plan of a log, where its records do this
abbrev pub filled_plan : (ℕ → (ℕ → ℕ) → List Shape) → Log → List ℕ → Planned
filled_plan shapes log opening = record {
  log = log;
  opening = opening;
  operations = λ h m. operations_at shapes opening (line_number log.lines h m);
}

-- the laws of a filled plan that are left to be shown: its reads always have their values
pub record AreLawfulShapes (shapes : ℕ → (ℕ → ℕ) → List Shape) (log : Log) (opening : List ℕ) : Type 0 where
  pub run : IsRunLog log
  pub few : length log.lines < 4294967295
  pub ordered : IsOrdered log
  pub table : IsTable opening
  pub sound : AllSound shapes opening (length log.lines)
  pub paths : HasPaths (course_of (filled_plan shapes log opening))

-- The longest runs of bytes with one nibble that is not 0, by address.
use Rattle.std.specs.Prelude.{◌≡◌, ◌≢◌, ℕ, zero, suc, ◌+◌, ◌-◌, ◌<◌, ◌≤◌, ◌&&◌, ◌==◌, List, [], ◌∷◌, All, AllPairs, Any, if◌then◌else◌}
use Rattle.pl_base.specs.declared.layout.TheConstants.{MEMORY_BYTES}
use Rattle.lifeguard.specs.State.{Bytes, nibble_at}
use Rattle.report_text.specs.declared.runs.ByteRun.{ByteRun}

-- a byte with this nibble before the runs of those after it
abbrev pub onto_run : ℕ → ℕ → List ByteRun → List ByteRun
onto_run a zero runs = runs
onto_run a (suc n) [] = record { first = a; last = a; nibble = suc n } ∷ []
onto_run a (suc n) (run ∷ runs) =
    if (run.first == a + 1) && (run.nibble == suc n)
    then record { first = a; last = run.last; nibble = suc n } ∷ runs
    else record { first = a; last = a; nibble = suc n } ∷ run ∷ runs

-- the runs of the next `count` bytes
unfoldable pub runs_from : Bytes → ℕ → ℕ → List ByteRun
runs_from bytes a zero = []
runs_from bytes a (suc count) = onto_run a (nibble_at bytes a) (runs_from bytes (suc a) count)

-- the runs of all memory, 2^24 bytes
abbrev pub runs_of : Bytes → List ByteRun
runs_of bytes = runs_from bytes 0 MEMORY_BYTES

-- a run of bytes with one nibble that is not 0, which no byte from `low` up to before `high` makes longer
pub record IsLongestRun (bytes : Bytes) (low high : ℕ) (run : ByteRun) : Type 0 where
  pub from : low ≤ run.first
  pub order : run.first ≤ run.last
  pub within : run.last < high
  pub shown : run.nibble ≢ 0
  pub same : (a : ℕ) → run.first ≤ a → a ≤ run.last → nibble_at bytes a ≡ run.nibble
  pub before : low < run.first → nibble_at bytes (run.first - 1) ≢ run.nibble
  pub after : run.last + 1 < high → nibble_at bytes (run.last + 1) ≢ run.nibble

-- the byte at a lies in the run
pub record LiesIn (a : ℕ) (run : ByteRun) : Type 0 where
  pub from : run.first ≤ a
  pub upto : a ≤ run.last

-- these are all longest runs, by address: each byte whose nibble is not 0 lies in one
pub record AreLongestRuns (bytes : Bytes) (low high : ℕ) (runs : List ByteRun) : Type 0 where
  pub each : All (IsLongestRun bytes low high) runs
  pub rising : AllPairs (λ run later. run.last < later.first) runs
  pub whole : (a : ℕ) → low ≤ a → a < high → nibble_at bytes a ≢ 0 → Any (LiesIn a) runs

-- the bytes from first up to before at as a run, where their nibble is not 0
abbrev pub ended_run : ℕ → ℕ → ℕ → List ByteRun
ended_run first at zero = []
ended_run first at (suc n) = record { first = first; last = at - 1; nibble = suc n } ∷ []

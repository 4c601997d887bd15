-- A worker that is fed its stream in pieces.
use Rattle.std.specs.Prelude.{◌≡◌, [], ◌∷◌, ◌++◌, ℕ, true, List, length, take, drop, filter, slice_set}
use mathlib.Core.Option.{some}
use lib.ListN.{get_elem?}
use Rattle.pl_event.specs.declared.fed.Fed.{Fed}
use Rattle.pl_event.specs.declared.log.Line.{Line}
use Rattle.pl_event.specs.Feeds.{feds_from, feds_of}
use Rattle.pl_event.specs.Numbers.{is_of}
use Rattle.turn_worker.specs.Workers.{WorkerView, stream_of}

-- the stream begins with these records
abbrev pub Begins : List Fed → List Fed → Type 0
Begins told stream = take (length told) stream ≡ told

-- the worker was `start`, and was only fed since; with the piece behind it these are the records told
pub record IsFedBy (start now : WorkerView) (piece told : List Fed) : Type 0 where
  pub same : now ≡ record start { fed = now.fed }
  pub all : now.fed ++ piece ≡ told

-- the worker of hart h may be fed this record next
abbrev pub MayPush : {F : Type 0} → (F → WorkerView) → (F → List Fed) → ℕ → Fed → List F → Type 0
MayPush {F} view piece h fed feedings = (f : F) → get_elem? feedings h ≡ some f →
    (start : WorkerView) × (told : List Fed)
    × IsFedBy start (view f) (piece f) told × Begins (told ++ fed ∷ []) (stream_of start)

-- the worker of hart h has one record more, and the others are as they were
pub record IsPushed {F : Type 0} (view : F → WorkerView) (piece : F → List Fed) (h : ℕ) (fed : Fed) (old new : List F)
    : Type 0 where
  pub feeding : F
  pub set : new ≡ slice_set old h feeding
  pub grown : (f : F) → get_elem? old h ≡ some f → (start : WorkerView) (told : List Fed)
      → IsFedBy start (view f) (piece f) told → IsFedBy start (view feeding) (piece feeding) (told ++ fed ∷ [])

-- no piece has a record
abbrev pub AreEmpty : {F : Type 0} → (F → List Fed) → List F → Type 0
AreEmpty {F} piece feedings = (k : ℕ) (f : F) → get_elem? feedings k ≡ some f → piece f ≡ []

-- each worker, which was `starts` at its place, was fed and holds the records of its hart among the first `at` lines
pub record AreFedUpTo {F : Type 0} (view : F → WorkerView) (piece : F → List Fed) (lines : List Line)
    (starts : List WorkerView) (at : ℕ) (feedings : List F) : Type 0 where
  pub size : length feedings ≡ length starts
  pub streams : (k : ℕ) (start : WorkerView) → get_elem? starts k ≡ some start → stream_of start ≡ feds_of k lines
  pub fed : (k : ℕ) (start : WorkerView) (f : F) → get_elem? starts k ≡ some start → get_elem? feedings k ≡ some f
      → (told : List Fed) × IsFedBy start (view f) (piece f) told
      × (told ++ filter (λ fed. is_of k fed.line) (feds_from lines at (drop at lines)) ≡ feds_of k lines)

-- the worker was `start`, and was fed its whole stream
abbrev pub IsFedWhole : WorkerView → WorkerView → Type 0
IsFedWhole start now = now ≡ record start { fed = stream_of start; ended = true }

-- no worker was fed anything, and its stream is that of its hart
abbrev pub AreUnfed : {W : Type 0} → (W → WorkerView) → List Line → List W → Type 0
AreUnfed {W} view lines workers = (k : ℕ) (w : W) → get_elem? workers k ≡ some w
    → ((view w).fed ≡ []) × (stream_of (view w) ≡ feds_of k lines)

-- each worker was only fed its whole stream since
pub record AreFedWhole {W : Type 0} (view : W → WorkerView) (old new : List W) : Type 0 where
  pub size : length new ≡ length old
  pub each : (k : ℕ) (v w : W) → get_elem? old k ≡ some v → get_elem? new k ≡ some w → IsFedWhole (view v) (view w)

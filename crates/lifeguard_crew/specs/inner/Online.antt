-- Workers that are fed while they are turned.
use Rattle.std.specs.Prelude.{◌≡◌, ◌++◌, ◌<◌, ◌≤◌, ℕ, true, false, [], List, filter, length}
use mathlib.Core.Option.{some}
use lib.ListN.{get_elem?}
use Rattle.pl_event.specs.declared.fed.Fed.{Fed}
use Rattle.pl_event.specs.Numbers.{is_of}
use Rattle.order_core.specs.Course.{Planned}
use Rattle.guard_table.specs.declared.seats.Monitor.{Monitor}
use Rattle.guard_table.specs.Seats.{plan_of}
use Rattle.turn_worker.specs.Workers.{WorkerView, IsAt, stream_of}
use Rattle.ring_feed.specs.Streams.{records_on}
use Rattle.lifeguard_crew.specs.inner.Rounds.{lasting}

-- the worker's seat is of this monitor, and it performs the operations of its plan
pub record IsOfRun {P : Type 0} (planned : P → Planned) (m : Monitor P) (v : WorkerView) : Type 0 where
  pub at : IsAt planned m v
  pub plan : planned (plan_of m) ≡ v.plan

-- it was fed its stream up to what of these records is of its hart
abbrev pub IsFedUpTo : List Fed → WorkerView → Type 0
IsFedUpTo rest v = v.fed ++ records_on v.seat.hart rest ≡ stream_of v

-- w is v after turns and notes
abbrev pub IsTurned : WorkerView → WorkerView → Type 0
IsTurned v w = lasting w ≡ lasting v

-- w is v after it was fed what of these records is of its hart
abbrev pub IsFed : List Fed → WorkerView → WorkerView → Type 0
IsFed piece v w = w ≡ record v { fed = v.fed ++ records_on v.seat.hart piece }

-- w is v after it was told that its stream has ended
abbrev pub IsTold : WorkerView → WorkerView → Type 0
IsTold v w = w ≡ record v { ended = true }

-- what of a worker no turn, no note and no record that it is fed changes
abbrev pub fixed : WorkerView → WorkerView
fixed v = record (lasting v) { fed = []; ended = false }

-- w is v after some of its run
abbrev pub IsSameWorker : WorkerView → WorkerView → Type 0
IsSameWorker v w = fixed w ≡ fixed v

-- each worker is so
abbrev pub Every : {W : Type 0} → (WorkerView → Type 0) → (W → WorkerView) → List W → Type 0
Every {W} F view ws = (k : ℕ) (w : W) → get_elem? ws k ≡ some w → F (view w)

-- they are the workers that were there, by number, and this led from each to what it is now
pub record EachLed {W : Type 0} (Q : WorkerView → WorkerView → Type 0) (view : W → WorkerView) (old new : List W)
    : Type 0 where
  pub size : length new ≡ length old
  pub each : (k : ℕ) (v w : W) → get_elem? old k ≡ some v → get_elem? new k ≡ some w → Q (view v) (view w)

-- this led from each of the first n workers to what it is now, and the others are as they were
pub record FirstLed {W : Type 0} (n : ℕ) (Q : WorkerView → WorkerView → Type 0) (view : W → WorkerView)
    (old new : List W) : Type 0 where
  pub size : length new ≡ length old
  pub each : (k : ℕ) (v w : W) → k < n → get_elem? old k ≡ some v → get_elem? new k ≡ some w → Q (view v) (view w)
  pub others : (k : ℕ) → n ≤ k → get_elem? new k ≡ get_elem? old k

-- Which workers a driver may run, and what it finds.
use Rattle.std.specs.Prelude.{◌≡◌, ℕ, true, [], List, length}
use mathlib.Core.Option.{some}
use lib.ListN.{get_elem?}
use Rattle.pl_event.specs.declared.fed.Fed.{Fed}
use Rattle.pl_event.specs.Feeds.{feds}
use Rattle.order_core.specs.Course.{Planned, course, length_of}
use Rattle.guard_table.specs.declared.seats.GuardSeat.{GuardSeat}
use Rattle.guard_table.specs.declared.seats.Monitor.{Monitor}
use Rattle.guard_table.specs.Seats.{plan_of, seat_view, IsSeatOf}
use Rattle.turn_worker.specs.declared.worker.HartResult.{HartResult}
use Rattle.turn_worker.specs.Workers.{WorkerView, IsAt}
use Rattle.turn_worker.specs.Results.{IsResult}
use Rattle.turn_worker.specs.Crews.{IsCrew}
use Rattle.lifeguard_crew.specs.declared.finished.Finished.{Finished}

-- the worker's seat is of this monitor, it performs the operations of its plan, and it was fed its whole stream
pub record IsReady {P : Type 0} (planned : P → Planned) (m : Monitor P) (v : WorkerView) : Type 0 where
  pub at : IsAt planned m v
  pub plan : planned (plan_of m) ≡ v.plan
  pub ended : v.ended ≡ true

-- a worker for each hart of the run, by number, and each is ready
pub record IsReadyCrew {P W : Type 0} (planned : P → Planned) (view : W → WorkerView) (m : Monitor P) (ws : List W)
    : Type 0 where
  pub crew : IsCrew view (course planned (plan_of m)) ws
  pub ready : (k : ℕ) (w : W) → get_elem? ws k ≡ some w → IsReady planned m (view w)

-- the worker's seat is of this monitor, it performs the operations of its plan, and it was fed nothing
pub record IsFresh {P : Type 0} (planned : P → Planned) (m : Monitor P) (v : WorkerView) : Type 0 where
  pub at : IsAt planned m v
  pub plan : planned (plan_of m) ≡ v.plan
  pub fed : v.fed ≡ []

-- a worker for each hart of the run, by number, none of which was fed anything
pub record IsFreshCrew {P W : Type 0} (planned : P → Planned) (view : W → WorkerView) (m : Monitor P) (ws : List W)
    : Type 0 where
  pub crew : IsCrew view (course planned (plan_of m)) ws
  pub fresh : (k : ℕ) (w : W) → get_elem? ws k ≡ some w → IsFresh planned m (view w)

-- all lines of the run that the monitor's plan is of, in executed order
abbrev pub lines_of : {P : Type 0} → (P → Planned) → Monitor P → List Fed
lines_of planned m = feds (planned (plan_of m)).log.lines

-- the seat of a hart, of this monitor, whose progress word is the length of its hart's stream
pub record IsSeatAtEnd {P : Type 0} (planned : P → Planned) (m : Monitor P) (h : ℕ) (s : GuardSeat) : Type 0 where
  pub of : IsSeatOf planned m s
  pub hart : (seat_view s).hart ≡ h
  pub end : (seat_view s).progress ≡ length_of (course planned (plan_of m)) h

-- by number, for each worker the result of its hart's whole stream, and its seat at the end of it
pub record IsFinished {P W : Type 0} (planned : P → Planned) (view : W → WorkerView) (m : Monitor P) (ws : List W)
    (f : Finished) : Type 0 where
  pub results : length f.results.items ≡ length ws
  pub seats : length f.seats.items ≡ length ws
  pub result : (k : ℕ) (w : W) (r : HartResult) → get_elem? ws k ≡ some w → get_elem? f.results.items k ≡ some r
      → IsResult (view w) r
  pub seat : (k : ℕ) (s : GuardSeat) → get_elem? f.seats.items k ≡ some s → IsSeatAtEnd planned m k s

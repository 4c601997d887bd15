-- The workers of all harts of a run.
use Rattle.std.specs.Prelude.{◌≡◌, ◌≢◌, ℕ, ◌≤◌, ◌⊎◌, List, length, slice_index}
use mathlib.Core.Option.{some}
use lib.ListN.{get_elem?}
use Rattle.order_core.specs.declared.course.Course.{Course}
use Rattle.turn_worker.specs.Workers.{WorkerView, size}
use Rattle.turn_worker.specs.Turns.{IsWaiting}

-- a worker for each hart of the run, by number
pub record IsCrew {W : Type 0} (view : W → WorkerView) (c : Course) (ws : List W) : Type 0 where
  pub size : length ws ≡ c.log.harts
  pub course : (k : ℕ) (w : W) → get_elem? ws k ≡ some w → (view w).seat.course ≡ c
  pub hart : (k : ℕ) (w : W) → get_elem? ws k ≡ some w → (view w).seat.hart ≡ k

-- each worker has learnt of each other one no less than what that one has taken
abbrev pub HaveHeard : {W : Type 0} → (W → WorkerView) → List W → Type 0
HaveHeard {W} view ws = (j k : ℕ) (v w : W) → get_elem? ws j ≡ some v → get_elem? ws k ≡ some w → j ≢ k
    → (view v).taken ≤ slice_index (view w).seat.learnt j

-- it has taken all records of its hart
abbrev pub IsThrough : WorkerView → Type 0
IsThrough v = v.taken ≡ size v

-- it is through, or waits
abbrev pub IsStuck : WorkerView → Type 0
IsStuck v = IsThrough v ⊎ ((u : ℕ) × (need : ℕ) × (seen : ℕ) × IsWaiting v u need seen)

-- The workers of all harts before the first record.
use Rattle.std.specs.Prelude.{◌≡◌, ℕ, List, length}
use mathlib.Core.Option.{some}
use lib.ListN.{get_elem?}
use Rattle.atomic_table.specs.Seated.{TableId}
use Rattle.pl_event.specs.declared.log.Log.{Log}
use Rattle.lifeguard.specs.Rules.{Rules}
use Rattle.order_core.specs.declared.course.Course.{Course}
use Rattle.guard_table.specs.declared.seats.Monitor.{Monitor}
use Rattle.guard_table.specs.Views.{first_view, fresh_view}
use Rattle.turn_worker.specs.Workers.{WorkerView, size}
use Rattle.lifeguard_worker.specs.Workers.{first_worker}
use Rattle.log_watch.specs.Watched.{misses_of}

abbrev pub table_id_of : {P : Type 0} → Monitor P → TableId
table_id_of m = m.table.shared.table_id

-- by number, for each hart of the run a worker at this table that has done nothing and was fed nothing
pub record AreFirst {W : Type 0} (view : W →
    WorkerView) (rules : Rules) (table : TableId) (c : Course) (workers : List W)
    : Type 0 where
  pub harts : length workers ≡ c.log.harts
  pub each : (k : ℕ) (w : W) → get_elem? workers k ≡ some w
      → view w ≡ first_worker rules table (fresh_view k (first_view c))

-- each worker keeps these rules, on a hart of the log, and tells the misses of its hart
abbrev pub AreUnder : {W : Type 0} → (W → WorkerView) → Rules → Log → List W → Type 0
AreUnder {W} view rules log workers = (k : ℕ) (w : W) → get_elem? workers k ≡ some w
    → ((view w).rules ≡ rules) × ((view w).seat.course.log ≡ log) × ((view w).seat.hart ≡ k)
    × ((view w).misses (size (view w)) ≡ misses_of rules log k)

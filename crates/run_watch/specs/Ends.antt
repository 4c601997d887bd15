-- The workers of a run, which have ended.
use Rattle.std.specs.Prelude.{List}
use Rattle.lifeguard.specs.Rules.{Rules}
use Rattle.order_core.specs.Course.{Planned, course}
use Rattle.guard_table.specs.declared.seats.Monitor.{Monitor}
use Rattle.guard_table.specs.Seats.{plan_of}
use Rattle.turn_worker.specs.Workers.{WorkerView}
use Rattle.lifeguard_crew.specs.declared.finished.Finished.{Finished}
use Rattle.lifeguard_crew.specs.Drivers.{IsFinished}
use Rattle.log_watch.specs.Crews.{AreFirst, table_id_of}

-- this was found of workers that were fed nothing at first
pub record HasEnded {P W : Type 0} (rules : Rules) (planned : P → Planned) (view : W → WorkerView) (m : Monitor P)
    (found : Finished) : Type 0 where
  pub workers : List W
  pub firsts : AreFirst view rules (table_id_of m) (course planned (plan_of m)) workers
  pub finished : IsFinished planned view m workers found

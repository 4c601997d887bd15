-- The run that a seat belongs to.
use Rattle.std.specs.Prelude.{◌≡◌, ℕ}
use Rattle.lifeguard.specs.Rules.{Rules}
use Rattle.order_core.specs.Course.{Planned}
use Rattle.guard_table.specs.declared.view.View.{View}
use Rattle.guard_table.specs.declared.seats.GuardSeat.{GuardSeat}
use Rattle.guard_table.specs.declared.seats.Monitor.{Monitor}
use Rattle.guard_table.specs.Seats.{seat_view, IsSeatOf}
use Rattle.log_plan.specs.Plans.{plan_of}
use Rattle.worker_laws.specs.Runs.{Run}
use Rattle.worker_laws.specs.LogRuns.{log_run}

-- the run of the log of a seat, under these rules
abbrev pub run_at : Rules → View → Run
run_at rules v = log_run rules v.course.log

-- the seat is of this monitor, whose plan is that of the seat's log under these rules
pub record IsAt {P : Type 0} (planned : P → Planned) (m : Monitor P) (rules : Rules) (seat : GuardSeat) : Type 0 where
  pub of : IsSeatOf planned m seat
  pub plan : planned m.plan ≡ plan_of rules (seat_view seat).course.log

-- The first workers of a run were fed nothing, and what they find is of its log.
use Rattle.std.proofs.Common.{◌≡◌, List, sym, ap, ◌∙◌}
use Rattle.atomic_table.specs.Seated.{TableId}
use Rattle.pl_event.specs.declared.log.Log.{Log}
use Rattle.lifeguard.specs.Rules.{Rules}
use Rattle.order_core.specs.Course.{Planned, course, course_of, length_of}
use Rattle.guard_table.specs.declared.seats.Monitor.{Monitor}
use Rattle.guard_table.specs.Seats.{plan_of}
use Rattle.log_plan.specs.Plans.{plan_of as plan_under}
use Rattle.turn_worker.specs.Workers.{WorkerView, size}
use Rattle.lifeguard_crew.specs.Drivers.{IsFreshCrew}
use Rattle.worker_laws.specs.Folds.{misses_at}
use Rattle.worker_laws.specs.LogRuns.{log_run}
use Rattle.log_watch.specs.Crews.{AreFirst, AreUnder, table_id_of}

module _ {W P : Type 0} (view : W → WorkerView) (planned : P → Planned) (m : Monitor P) (rules : Rules) (log : Log) (plan : planned (plan_of m) ≡ plan_under rules log)
    (ws : List W) (firsts : AreFirst view rules (table_id_of m) (course planned (plan_of m)) ws) where
  pub crew_fresh : IsFreshCrew planned view m ws
  crew_fresh = record {
    crew = record {
      size = firsts.harts;
      course = λ k w at. ap (λ (v : WorkerView). v.seat.course) (firsts.each k w at);
      hart = λ k w at. ap (λ (v : WorkerView). v.seat.hart) (firsts.each k w at);
    };
    fresh = λ k w at. record {
      at = (ap (λ (v : WorkerView). v.table) (firsts.each k w at), ap (λ (v : WorkerView). v.seat.course) (firsts.each k w at));
      plan = plan ∙ ((λ d. plan_under rules (sym plan d).log) ∙ sym (ap (λ (v : WorkerView). v.plan) (firsts.each k w at)));
      fed = ap (λ (v : WorkerView). v.fed) (firsts.each k w at);
    };
  }

module _ {W : Type 0} (view : W → WorkerView) (rules : Rules) (log : Log) (table : TableId) (p : Planned) (plan : p ≡ plan_under rules log) (ws : List W) (firsts : AreFirst view rules table (course_of p) ws) where
  pub crew_under : AreUnder view rules log ws
  crew_under k w at = (
    ap (λ (v : WorkerView). v.rules) (firsts.each k w at),
    ap (λ (v : WorkerView). v.seat.course.log) (firsts.each k w at) ∙ ap (λ (p : Planned). p.log) plan,
    ap (λ (v : WorkerView). v.seat.hart) (firsts.each k w at),
    ap (λ (v : WorkerView). v.misses (size v)) (firsts.each k w at) ∙ (λ d. misses_at (log_run rules (plan d).log) k (length_of (course_of (plan d)) k)),
  )

use Rattle.std.proofs.Common.{sym, ap, ◌∙◌}
use Rattle.pl_event.specs.Feeds.{feds}
use Rattle.order_core.specs.Course.{Planned}
use Rattle.guard_table.specs.declared.view.View.{View}
use Rattle.guard_table.specs.Seats.{seat_view}
use Rattle.log_plan.specs.Plans.{plan_of as plan_under}
use Rattle.lifeguard_worker.specs.declared.worker.Worker.{Worker}
use Rattle.lifeguard_worker.specs.Workers.{table_of, worker_view}
use Rattle.turn_worker.specs.Workers.{WorkerView}
use Rattle.run_watch.proofs.Fresh.{crew_fresh}
use Rattle.run_watch.proofs.opening.opened.Goals as goal

pub first_crew-requires-clause-plan : goal.first_crew-requires-clause-plan
first_crew-requires-clause-plan g c =
    let has = c.run_logs.ensures.log c.args.job.now c.requires in
    let plan = c.in_ok-monitor.ensures.plan has.log has.of_run in
    plan ∙ (λ d. plan_under (g.L.Lifeguard.rules c.args.guard) (sym plan d).log)

pub first_crew-requires-clause-none : goal.first_crew-requires-clause-none
first_crew-requires-clause-none g c =
    let has = c.run_logs.ensures.log c.args.job.now c.requires in
    ap (λ (v : View). v.made) (c.in_ok-monitor.ensures.head has.log has.of_run)

pub returns-clause-crew : goal.returns-clause-crew
returns-clause-crew g c =
    let has = c.run_logs.ensures.log c.args.job.now c.requires in
    let view : Worker g.row.L.Denot g.L.Lifeguard → WorkerView = λ w. worker_view (g.L.Lifeguard.rules w.guard) (table_of w.seat) (seat_view w.seat) w.state w.fed w.ended in
    crew_fresh view _ _ (g.L.Lifeguard.rules c.args.guard) has.log (c.in_ok-monitor.ensures.plan has.log has.of_run) c.in_ok-workers.workers.items c.in_ok-workers.ensures.workers

pub returns-clause-feed : goal.returns-clause-feed
returns-clause-feed g c =
    let has = c.run_logs.ensures.log c.args.job.now c.requires in
    c.in_ok-feed.ensures has.log has.of_run ∙ sym (ap (λ (p : Planned). feds p.log.lines) (c.in_ok-monitor.ensures.plan has.log has.of_run))

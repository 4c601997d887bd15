use Rattle.std.proofs.Common.{◌≡◌, ◌<◌, ◌≤◌, ℕ, [], List, length, sym, ap, ◌∙◌, subst, arith}
use Rattle.order_core.specs.Course.{Planned, course_of}
use Rattle.pl_event.specs.declared.log.Log.{Log}
use Rattle.pl_event.specs.Edges.{IsFlow}
use Rattle.guard_table.specs.declared.view.View.{View}
use Rattle.guard_table.specs.Seats.{seat_view}
use Rattle.log_plan.specs.Plans.{plan_of as plan_under}
use Rattle.list_plan.proofs.LineLemmas.{few_harts}
use Rattle.lifeguard_worker.specs.declared.worker.Worker.{Worker}
use Rattle.lifeguard_worker.specs.Workers.{table_of, worker_view}
use Rattle.turn_worker.specs.Workers.{WorkerView}
use Rattle.log_watch.specs.Crews.{AreFirst, table_id_of}
use Rattle.log_watch.specs.Feeding.{AreUnfed}
use Rattle.log_watch.proofs.CrewLemmas.{unfed}
use Rattle.log_watch.proofs.LogLemmas.{flow_of}
use Rattle.log_watch.proofs.ReadyLemmas.{crew_ready, crew_under}
use Rattle.log_watch.proofs.watch.crew_of.Goals as goal

pub first_crew-requires-clause-plan : goal.first_crew-requires-clause-plan
first_crew-requires-clause-plan g c = c.requires.plan ∙ (λ d. plan_under (g.L.Lifeguard.rules c.args.guard) (sym c.requires.plan d).log)

pub first_crew-requires-clause-none : goal.first_crew-requires-clause-none
first_crew-requires-clause-none g c = ap (λ (v : View). v.made) c.requires.head

pub feed_all-requires-clause-flow : goal.feed_all-requires-clause-flow
feed_all-requires-clause-flow g c = subst (λ (z : Log). IsFlow z.harts z.lines) (sym c.log.ensures) (flow_of c.args.log.now.log c.args.log.now.lawful)

pub feed_all-requires-clause-harts : goal.feed_all-requires-clause-harts
feed_all-requires-clause-harts g c = subst (λ (z : Log). z.harts ≤ 8) (sym c.log.ensures) (few_harts c.args.log.now.log c.args.log.now.lawful)

pub feed_all-requires-clause-few : goal.feed_all-requires-clause-few
feed_all-requires-clause-few g c = subst (λ (z : Log). length z.lines < 4294967296) (sym c.log.ensures) (let l : length c.args.log.now.log.lines < 4294967295 = c.requires.few in omega arith)

pub feed_all-requires-clause-size : goal.feed_all-requires-clause-size
feed_all-requires-clause-size g c = c.in_ok-first.ensures.workers.harts ∙ (ap (λ (p : Planned). p.log.harts) c.requires.plan ∙ sym (ap (λ (z : Log). z.harts) c.log.ensures))

pub feed_all-requires-clause-unfed : goal.feed_all-requires-clause-unfed
feed_all-requires-clause-unfed g c =
    let view : Worker g.row.L.Denot g.L.Lifeguard → WorkerView = λ w. worker_view (g.L.Lifeguard.rules w.guard) (table_of w.seat) (seat_view w.seat) w.state w.fed w.ended in
    subst (λ (z : Log). AreUnfed view z.lines c.in_ok-first.first.items) (sym c.log.ensures)
    (unfed view (g.L.Lifeguard.rules c.args.guard) (table_id_of c.args.monitor.now) c.args.log.now.log c.in_ok-first.first.items
    (subst (λ (p : Planned). AreFirst view (g.L.Lifeguard.rules c.args.guard) (table_id_of c.args.monitor.now) (course_of p) c.in_ok-first.first.items) c.requires.plan c.in_ok-first.ensures.workers))

pub returns-clause-ready : goal.returns-clause-ready
returns-clause-ready g c =
    let view : Worker g.row.L.Denot g.L.Lifeguard → WorkerView = λ w. worker_view (g.L.Lifeguard.rules w.guard) (table_of w.seat) (seat_view w.seat) w.state w.fed w.ended in
    crew_ready view (λ plan. plan_under (g.L.Lifeguard.rules plan.guard) plan.log.now.log) c.args.monitor.now (g.L.Lifeguard.rules c.args.guard) c.args.log.now.log c.requires.plan c.in_ok-first.first.items c.in_ok-workers.workers.items c.in_ok-first.ensures.workers c.in_ok-workers.ensures

pub returns-clause-rules : goal.returns-clause-rules
returns-clause-rules g c =
    let view : Worker g.row.L.Denot g.L.Lifeguard → WorkerView = λ w. worker_view (g.L.Lifeguard.rules w.guard) (table_of w.seat) (seat_view w.seat) w.state w.fed w.ended in
    crew_under view (λ plan. plan_under (g.L.Lifeguard.rules plan.guard) plan.log.now.log) c.args.monitor.now (g.L.Lifeguard.rules c.args.guard) c.args.log.now.log c.requires.plan c.in_ok-first.first.items c.in_ok-workers.workers.items c.in_ok-first.ensures.workers c.in_ok-workers.ensures

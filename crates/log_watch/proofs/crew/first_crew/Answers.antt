use Rattle.std.proofs.Common.{◌≡◌, ◌+◌, ◌<◌, ℕ, List, sym, subst, arith}
use Rattle.std.specs.Prelude.{Contains}
use Rattle.order_core.specs.Course.{course}
use Rattle.guard_table.specs.declared.view.View.{View}
use Rattle.guard_table.specs.Seats.{head_view, plan_of, seat_view}
use Rattle.turn_worker.specs.Workers.{WorkerView}
use Rattle.lifeguard_worker.specs.declared.worker.Worker.{Worker}
use Rattle.lifeguard_worker.specs.Workers.{table_of, worker_view}
use Rattle.log_watch.specs.Crews.{table_id_of}
use Rattle.log_watch.proofs.CrewLemmas.{AreFirstUpTo, first_more, made_below}
use Rattle.log_watch.proofs.crew.first_crew.Goals as goal

pub worker-requires-clause-once : goal.worker-requires-clause-once
worker-requires-clause-once g c contains = absurd (let l : c.loop-hart.hart < c.loop-hart.hart = c.loop-hart.invariant.made c.loop-hart.hart contains in omega arith)

pub loop-hart-preserved : goal.loop-hart-preserved
loop-hart-preserved g c =
    let view : Worker g.row.L.Denot g.L.Lifeguard → WorkerView = λ w. worker_view (g.L.Lifeguard.rules w.guard) (table_of w.seat) (seat_view w.seat) w.state w.fed w.ended in
    record {
      of = c.worker.ensures.of;
      made = λ x contains. made_below (head_view c.loop-hart.head).made c.loop-hart.hart c.loop-hart.invariant.made x (subst (λ (v : View). Contains v.made x) c.worker.ensures.head contains);
      workers = subst (λ (ws : List (Worker g.row.L.Denot g.L.Lifeguard)). AreFirstUpTo view (g.L.Lifeguard.rules c.args.guard) (table_id_of c.args.monitor.now) (course g.P.Plan.planned (plan_of c.args.monitor.now)) ws (c.loop-hart.hart + 1))
          (sym c.in_ok-push.ensures.items)
          (first_more view (g.L.Lifeguard.rules c.args.guard) (table_id_of c.args.monitor.now) (course g.P.Plan.planned (plan_of c.args.monitor.now)) c.loop-hart.workers.items c.loop-hart.hart c.in_ok-worker.field-0
          (head_view c.loop-hart.head) c.loop-hart.invariant.workers c.loop-hart.invariant.of.1 c.in_ok-worker.ensures.worker);
    }

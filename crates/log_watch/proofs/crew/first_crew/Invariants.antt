use Rattle.std.proofs.Common.{ℕ, ◌<◌}
use Rattle.std.specs.Prelude.{Contains}
use Rattle.order_core.specs.Course.{course}
use Rattle.guard_table.specs.Seats.{IsHeadOf, head_view, plan_of}
use Rattle.lifeguard_worker.specs.Workers.{table_of, worker_view}
use Rattle.guard_table.specs.Seats.{seat_view}
use Rattle.log_watch.specs.Crews.{table_id_of}
use Rattle.log_watch.proofs.CrewLemmas.{AreFirstUpTo}
use Rattle.log_watch.proofs.crew.first_crew.Given as goal

abbrev pub invariant-loop-hart : goal.invariant-loop-hart
invariant-loop-hart g l = record {
  of : IsHeadOf g.P.Plan.planned l.monitor l.head;
  made : (x : ℕ) → Contains (head_view l.head).made x → x < l.hart;
  workers : AreFirstUpTo (λ w. worker_view (g.L.Lifeguard.rules w.guard) (table_of w.seat) (seat_view w.seat) w.state w.fed w.ended) (g.L.Lifeguard.rules l.guard)
      (table_id_of l.monitor) (course g.P.Plan.planned (plan_of l.monitor)) l.workers.items l.hart;
}

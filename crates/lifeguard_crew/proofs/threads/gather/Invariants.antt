use Rattle.std.proofs.Common.{◌∷◌, length, map, vec_len}
use Rattle.lifeguard_crew.specs.inner.Rows.{Each, HasRow, Passes}
use Rattle.lifeguard_crew.proofs.threads.gather.Given as goal

abbrev pub invariant-loop-thread : goal.invariant-loop-thread
invariant-loop-thread g l = record {
  threads : Each (λ t. HasRow l.monitor (length l.row) t.promise.monitor.value t.promise.row.value.items) l.threads.items;
  passes : Passes g.P.Plan.planned g.W.TurnWorker.view l.monitor
      (l.fn.row ∷ map (λ t. t.promise.row.value.items) l.fn.threads.items)
      (l.row ∷ map (λ t. t.promise.row.value.items) l.threads.items);
}

abbrev pub decreases-loop-thread : goal.decreases-loop-thread
decreases-loop-thread g l = vec_len l.threads

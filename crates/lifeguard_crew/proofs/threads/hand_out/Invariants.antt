use Rattle.std.proofs.Common.{◌∷◌, [], length, map}
use Rattle.lifeguard_crew.specs.inner.Rows.{Each, HasRow, Passes}
use Rattle.lifeguard_crew.proofs.threads.hand_out.Given as goal

abbrev pub invariant-loop-i : goal.invariant-loop-i
invariant-loop-i g l = record {
  threads : Each (λ t. HasRow l.monitor (length l.row) t.promise.monitor.value t.promise.row.value.items) l.threads.items;
  passes : Passes g.P.Plan.planned g.W.TurnWorker.view l.monitor
      (l.initial.row ∷ []) (l.row ∷ map (λ t. t.promise.row.value.items) l.threads.items);
}

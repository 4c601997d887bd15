use Rattle.std.proofs.Common.{◌∷◌, length, map, vec_len}
use Rattle.lifeguard_crew.specs.inner.Rows.{Each}
use Rattle.lifeguard_crew.specs.inner.Readers.{HasReaders, ReadersPass}
use Rattle.lifeguard_crew.proofs.reader_threads.gather.Given as goal

abbrev pub invariant-loop-thread : goal.invariant-loop-thread
invariant-loop-thread g l = record {
  threads : Each (λ t. HasReaders l.monitor l.rings.items (length l.row) t.promise) l.threads.items;
  passes : ReadersPass g.P.Plan.planned g.W.TurnWorker.view l.monitor g.N.RunName.log l.rings.items
      (l.fn.row ∷ map (λ t. t.promise.row.value.items) l.fn.threads.items)
      (l.row ∷ map (λ t. t.promise.row.value.items) l.threads.items);
}

abbrev pub decreases-loop-thread : goal.decreases-loop-thread
decreases-loop-thread g l = vec_len l.threads

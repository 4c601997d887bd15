use Rattle.std.proofs.Common.{◌∷◌, [], length, map}
use Rattle.lifeguard_crew.specs.inner.Rows.{Each}
use Rattle.lifeguard_crew.specs.inner.Readers.{HasReaders, ReadersPass}
use Rattle.lifeguard_crew.proofs.reader_threads.hand_out.Given as goal

abbrev pub invariant-loop-i : goal.invariant-loop-i
invariant-loop-i g l = record {
  threads : Each (λ t. HasReaders l.monitor l.rings.items (length l.row) t.promise) l.threads.items;
  passes : ReadersPass g.P.Plan.planned g.W.TurnWorker.view l.monitor g.N.RunName.log l.rings.items
      (l.initial.row ∷ []) (l.row ∷ map (λ t. t.promise.row.value.items) l.threads.items);
}

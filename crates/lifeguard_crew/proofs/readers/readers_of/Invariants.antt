use Rattle.std.proofs.Common.{◌≡◌, ◌++◌, List, length}
use Rattle.std.specs.Vec.Iter.{into_iter_items}
use Rattle.stream_ring.specs.declared.ends.TakePass.{TakePass}
use Rattle.lifeguard_crew.specs.inner.Readers.{AllMayRead, AllRead}
use Rattle.lifeguard_crew.proofs.readers.readers_of.Given as goal

abbrev pub invariant-loop-worker : goal.invariant-loop-worker
invariant-loop-worker g l = record {
  size : length l.row.items ≡ length l.yielded;
  may : AllMayRead g.P.Plan.planned g.W.TurnWorker.view l.monitor g.N.RunName.log l.rings.items l.row.items;
  all : AllRead g.W.TurnWorker.view l.yielded l.row.items;
  passes : (done : List (TakePass g.row.N.Denot)) × (length done ≡ length l.yielded) × (l.fn.takes.items ≡ done ++ into_iter_items l.passes);
}

use Rattle.ring_feed.specs.Outlets.{AreOutlets}
use Rattle.lifeguard_crew.specs.inner.Readers.{KeepsReaders}
use Rattle.lifeguard_crew.proofs.caller.feed_counted.Given as goal

abbrev pub invariant-loop : goal.invariant-loop
invariant-loop g l = record {
  outlets : AreOutlets g.N.RunName.log (g.F.Feed.rest l.feed) l.outlets;
  keeps : KeepsReaders g.P.Plan.planned g.W.TurnWorker.view l.monitor g.N.RunName.log l.rings.items l.initial.row l.row;
}

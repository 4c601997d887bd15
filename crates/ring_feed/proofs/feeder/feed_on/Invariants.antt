use Rattle.std.proofs.Common.{◌≡◌, ◌+◌, length}
use Rattle.ring_feed.specs.Outlets.{AreOutlets, HaveRoom, rings_of}
use Rattle.ring_feed.proofs.feeder.feed_on.Given as goal

abbrev pub invariant-loop : goal.invariant-loop
invariant-loop g l = record {
  outlets : AreOutlets g.N.RunName.log (g.F.Feed.rest l.feed) l.outlets;
  rings : rings_of l.outlets ≡ rings_of l.fn.outlets;
  room : HaveRoom l.outlets;
  size : length (g.F.Feed.rest l.fn.feed) ≡ length (g.F.Feed.rest l.feed) + l.counter;
}

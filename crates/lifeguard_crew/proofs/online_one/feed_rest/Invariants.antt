use Rattle.std.proofs.Common.{length}
use Rattle.lifeguard_crew.specs.inner.Online.{EachLed, Every, IsFedUpTo, IsSameWorker}
use Rattle.lifeguard_crew.proofs.online_one.feed_rest.Given as goal

abbrev pub invariant-pieces : goal.invariant-pieces
invariant-pieces g l = record {
  same : EachLed IsSameWorker g.W.TurnWorker.view l.initial.workers l.workers;
  fed : Every (IsFedUpTo (g.F.Feed.rest l.feed)) g.W.TurnWorker.view l.workers;
}

abbrev pub decreases-pieces : goal.decreases-pieces
decreases-pieces g l = length (g.F.Feed.rest l.feed)

use Rattle.std.proofs.Common.{◌≡◌, List}
use Rattle.pl_event.specs.declared.fed.Fed.{Fed}
use Rattle.ring_feed.specs.Outlets.{AreFirstTried, AreOutlets, rings_of}
use Rattle.ring_feed.proofs.feeder.offer_all.Given as goal

abbrev pub invariant-loop-k : goal.invariant-loop-k
invariant-loop-k g l = record {
  rings : rings_of l.outlets ≡ rings_of l.initial.outlets;
  keeps : (rest : List Fed) → AreOutlets g.N.RunName.log rest l.initial.outlets → AreOutlets g.N.RunName.log rest l.outlets;
  first : AreFirstTried l.k l.outlets l.none;
}

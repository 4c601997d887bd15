use Rattle.ring_feed.specs.Outlets.{AreRings, AreSends, AreTakes}
use Rattle.ring_feed.proofs.rings.open_rings.Given as goal

abbrev pub invariant-loop-hart : goal.invariant-loop-hart
invariant-loop-hart g l = record {
  rings : AreRings l.hart l.rings.items;
  sends : AreSends l.rings.items l.sends.items;
  takes : AreTakes l.rings.items l.takes.items;
}

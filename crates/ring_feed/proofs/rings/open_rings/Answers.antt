use Rattle.std.proofs.Common.{◌≡◌, ◌+◌, [], ◌∷◌, ◌++◌, List, subst, sym}
use Rattle.stream_ring.specs.declared.ends.Ring.{Ring}
use Rattle.stream_ring.specs.declared.ends.SendPass.{SendPass}
use Rattle.stream_ring.specs.declared.ends.TakePass.{TakePass}
use Rattle.ring_feed.specs.Outlets.{AreRings, AreSends, AreTakes}
use Rattle.ring_feed.proofs.Ends.{rings_push, sends_push, takes_push}
use Rattle.ring_feed.proofs.rings.open_rings.Goals as goal

pub loop-hart-preserved : goal.loop-hart-preserved
loop-hart-preserved g c =
    let N = g.row.N.Denot in
    let old = c.loop-hart in
    let made = c.in_ok-ring in
    let rings : c.push.new.self.items ≡ old.rings.items ++ made.ring ∷ [] = c.in_ok-push.ensures.items in
    let sends : c.push-in-loop-hart.new.self.items ≡ old.sends.items ++ made.send ∷ [] = c.in_ok-push-2.ensures.items in
    let takes : c.push-in-loop-hart-2.new.self.items ≡ old.takes.items ++ made.take ∷ [] = c.in_ok-push-3.ensures.items in
    record {
      rings = subst (AreRings {N = N} (old.hart + 1)) (sym rings) (rings_push old.hart old.rings.items made.ring old.invariant.rings made.ensures.hart);
      sends = subst (λ (z : List (Ring N) × List (SendPass N)). AreSends z.0 z.1) (λ i. (sym rings i, sym sends i))
          (sends_push old.rings.items old.sends.items made.ring made.send old.invariant.sends made.ensures.of.0 made.ensures.fresh.0);
      takes = subst (λ (z : List (Ring N) × List (TakePass N)). AreTakes z.0 z.1) (λ i. (sym rings i, sym takes i))
          (takes_push old.rings.items old.takes.items made.ring made.take old.invariant.takes made.ensures.of.1 made.ensures.fresh.1);
    }

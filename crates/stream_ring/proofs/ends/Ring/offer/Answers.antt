use Rattle.std.proofs.Common.{ap}
use Rattle.stream_ring.specs.declared.view.View.{View}
use Rattle.stream_ring.proofs.Keeps.{offers, some_got}
use Rattle.stream_ring.proofs.ends.Ring.offer.Goals as goal

pub push_as-requires-clause-rule : goal.push_as-requires-clause-rule
push_as-requires-clause-rule g c =
    let is = c.args.pass.now.offers in
    let may = ap (λ (v : View). v.offers) is in
    (offers g.N.RunName.log _ _ _ _ c.len-len.ensures.sized may is (rw c.requires.of.1 c.requires.next), some_got g.N.RunName.log _ _ may)

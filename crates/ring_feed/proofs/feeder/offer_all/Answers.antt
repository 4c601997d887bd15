use Rattle.std.proofs.Common.{◌<◌, List, length, get_or, ◌∙◌, arith}
use Rattle.ring_feed.specs.declared.outlet.Outlet.{Outlet}
use Rattle.ring_feed.proofs.Outlets.{all_empty, all_tried, kept_set, one_tried, rings_set}
use Rattle.ring_feed.proofs.Pairs.{at_get}
use Rattle.ring_feed.proofs.feeder.offer_all.Goals as goal

pub offer-none-requires-clause-outlet : goal.offer-none-requires-clause-outlet
offer-none-requires-clause-outlet g c =
    let os : List (Outlet g.row.N.Denot) = c.loop-k.outlets in
    let i = c.loop-k.k in
    let o : Outlet g.row.N.Denot = c.index-outlets-k.result in
    let are = c.loop-k.invariant.keeps c.requires.0 c.requires.1 in
    (c.requires.0, i, are.each i (get_or os i o) (at_get os i o (omega arith)))

pub loop-k-preserved : goal.loop-k-preserved
loop-k-preserved g c =
    let os : List (Outlet g.row.N.Denot) = c.loop-k.outlets in
    let i = c.loop-k.k in
    let o : Outlet g.row.N.Denot = get_or os i c.index-outlets-k.result in
    let p : Outlet g.row.N.Denot = c.offer-none.new.self in
    let low : i < length os = omega arith in
    let at = at_get os i c.index-outlets-k.result low in
    record {
      rings = rings_set os i o p at c.offer-none.ensures.ring ∙ c.loop-k.invariant.rings;
      keeps = λ rest are. kept_set g.N.RunName.log rest os i o p at c.offer-none.ensures.keeps (c.loop-k.invariant.keeps rest are);
      first = one_tried i os p c.loop-k.none c.offer-none.result low c.loop-k.invariant.first c.offer-none.ensures.tried
          c.offer-none.ensures.none c.offer-none.ensures.left;
    }

pub returns-clause-none : goal.returns-clause-none
returns-clause-none g c = all_empty c.loop-k.k c.loop-k.outlets c.loop-k.none (omega arith) c.loop-k.invariant.first

pub returns-clause-left : goal.returns-clause-left
returns-clause-left g c = all_tried c.loop-k.k c.loop-k.outlets c.loop-k.none (omega arith) c.loop-k.invariant.first

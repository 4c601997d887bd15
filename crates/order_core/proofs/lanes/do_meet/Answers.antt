use Rattle.std.proofs.Common.{eq-eqb}
use Rattle.order_core.specs.Lanes.{covers}
use Rattle.order_core.proofs.Ranks.{eqb_is}
use Rattle.order_core.proofs.lanes.do_meet.Goals as goal

pub returns-then-op-read : goal.returns-then-op-read
unfolding covers
returns-then-op-read c = (
  (λ t. let s = c.share_lane.ensures.0 t in (c.if-op-read.true, s.0, eq-eqb _ _ s.2, eq-eqb _ _ s.1)),
  λ m. c.share_lane.ensures.1 (m.1, eqb_is _ _ m.3, eqb_is _ _ m.2),
)

use Rattle.std.proofs.Common.{refl}
use Rattle.ring_feed.proofs.Outlets.{is_new}
use Rattle.ring_feed.proofs.outlet.Outlet.new.Goals as goal

pub returns-clause-outlet : goal.returns-clause-outlet
returns-clause-outlet g c = is_new g.N.RunName.log _ _ c.requires.of c.requires.fresh refl c.new.ensures.items refl

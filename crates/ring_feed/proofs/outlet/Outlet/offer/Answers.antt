use Rattle.std.proofs.Common.{rules, ◌≡◌, length, arith}
use Rattle.ring_feed.proofs.Outlets.{outlet_short}
use Rattle.ring_feed.proofs.outlet.Outlet.offer.Goals as goal

pub overflow_add-self : goal.overflow_add-self
overflow_add-self g c =
    let short = outlet_short g.N.RunName.log c.requires.outlet.0 c.requires.outlet.1 c.args.self.now c.requires.outlet.2 in
    let size : c.len-size.result ≡ length c.args.self.now.part.items = search rules in
    omega (arith, c.requires.few)

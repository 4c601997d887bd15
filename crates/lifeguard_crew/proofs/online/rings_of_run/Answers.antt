use Rattle.std.proofs.Common.{◌≤◌, ℕ, sym, subst}
use Rattle.order_core.specs.Course.{course}
use Rattle.guard_table.specs.Seats.{plan_of}
use Rattle.ring_feed.specs.Outlets.{AreRings, CanBeFed}
use Rattle.lifeguard_crew.proofs.Drained.{ok_then}
use Rattle.ring_feed.proofs.Outlets.{can_be_fed}
use Rattle.lifeguard_crew.proofs.Same.{few_harts}
use Rattle.lifeguard_crew.proofs.online.rings_of_run.Goals as goal

pub open_rings-requires : goal.open_rings-requires
open_rings-requires g c =
    let plan = plan_of c.args.monitor.now in
    subst (λ (n : ℕ). n ≤ 8) (sym c.harts.ensures) (few_harts (course g.P.Plan.planned plan) (g.met.P.Plan.lawful plan))

pub returns-clause-can : goal.returns-clause-can
returns-clause-can g c =
    let plan = plan_of c.args.monitor.now in
    let can = subst CanBeFed (sym c.requires.log) (can_be_fed (course g.P.Plan.planned plan) (g.met.P.Plan.lawful plan)) in
    ok_then (λ o. AreRings c.harts.result o.rings.items) (λ o. CanBeFed g.N.RunName.log) c.open_rings.result (λ o are. can) c.open_rings.ensures.rings

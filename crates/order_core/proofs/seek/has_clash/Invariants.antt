use Rattle.std.proofs.Common.{◌-◌, ◌≤◌}
use Rattle.order_core.specs.Course.{course}
use Rattle.order_core.specs.inner.Places.{place, ClashesBetween}
use Rattle.order_core.proofs.seek.has_clash.Given as goal

abbrev pub invariant-loop-to : goal.invariant-loop-to
invariant-loop-to g l =
    let c = course g.P.Plan.planned l.plan in
    (1 ≤ l.at.number) × (l.at.op ≤ 4294967295) × (place l.initial.at.number l.initial.at.op ≤ place l.at.number l.at.op)
    × (ClashesBetween c l.hart l.read (place l.initial.at.number l.initial.at.op) (place l.at.number l.at.op) → ⊥)

abbrev pub decreases-loop-to : goal.decreases-loop-to
decreases-loop-to g l = place l.to.number l.to.op - place l.at.number l.at.op

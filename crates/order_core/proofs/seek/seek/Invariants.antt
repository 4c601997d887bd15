use Rattle.std.proofs.Common.{◌≡◌, ◌+◌, ◌-◌, ◌≤◌}
use Rattle.order_core.specs.Course.{course, length_of}
use Rattle.order_core.specs.Counts.{writes_before}
use Rattle.order_core.specs.inner.Places.{place}
use Rattle.order_core.proofs.seek.seek.Given as goal

abbrev pub invariant-loop-at : goal.invariant-loop-at
invariant-loop-at g l =
    let c = course g.P.Plan.planned l.plan in
    (1 ≤ l.at.number) × (place l.at.number l.at.op ≤ place (length_of c l.hart + 1) 0) × (writes_before c l.hart l.at.number l.at.op ≡ writes_before c l.hart l.initial.at.number l.initial.at.op)

abbrev pub decreases-loop-at : goal.decreases-loop-at
decreases-loop-at g l = place (l.len + 1) 0 - place l.at.number l.at.op

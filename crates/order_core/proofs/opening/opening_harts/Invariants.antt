use Rattle.std.proofs.Common.{◌≡◌, ℕ, ◌<◌, length}
use Rattle.order_core.specs.Course.{course}
use Rattle.order_core.specs.States.{hart_in}
use Rattle.order_core.specs.inner.Kept.{IsKept, IsFresh}
use Rattle.order_core.proofs.opening.opening_harts.Given as goal

abbrev pub invariant-loop-hart : goal.invariant-loop-hart
invariant-loop-hart g l =
    let c = course g.P.Plan.planned l.plan in
    (length l.harts ≡ 8) × ((h : ℕ) → IsFresh (hart_in l.harts h)) × ((h : ℕ) → h < l.hart → IsKept c h (hart_in l.harts h))

use Rattle.std.proofs.Common.{◌≡◌, ℕ, ◌<◌, ◌≤◌, length, slice_index}
use Rattle.order_core.specs.Course.{course}
use Rattle.order_core.specs.Core.{IsCursor}
use Rattle.order_core.specs.States.{hart_in}
use Rattle.order_core.proofs.run.cursors_now.Given as goal

abbrev pub invariant-loop-hart : goal.invariant-loop-hart
invariant-loop-hart g l =
    let c = course g.P.Plan.planned l.plan in
    (length l.cursors ≡ 8) × ((h : ℕ) → l.hart ≤ h → slice_index l.cursors h ≡ 0) × ((h : ℕ) → h < l.hart → IsCursor c (hart_in l.harts h).written (slice_index (hart_in l.harts h).seen) h (slice_index l.cursors h))

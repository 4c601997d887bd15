use Rattle.std.proofs.Common.{◌≡◌, ℕ, ◌<◌, ◌≤◌, length, slice_index}
use Rattle.order_core.specs.Course.{course}
use Rattle.order_core.specs.Feeds.{IsFedCursor}
use Rattle.order_core.specs.inner.KeptFed.{fed_now}
use Rattle.order_core.proofs.fed_run.taken_cursors.Given as goal

abbrev pub invariant-loop-hart : goal.invariant-loop-hart
invariant-loop-hart g l =
    let c = course g.P.Plan.planned l.plan in
    (length l.cursors ≡ 8) × ((h : ℕ) → l.hart ≤ h → slice_index l.cursors h ≡ 0) × ((h : ℕ) → h < l.hart → IsFedCursor c (fed_now l.state) h (slice_index l.cursors h))

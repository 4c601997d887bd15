use Rattle.std.proofs.Common.{◌≡◌, ℕ, ◌/◌, ◌%◌, ◌^◌, ◌<◌}
use Rattle.order_core.proofs.lanes.share_lane.Given as goal

abbrev pub invariant-loop-j : goal.invariant-loop-j
invariant-loop-j l = (j : ℕ) → j < l.j → l.a / 2 ^ j % 2 ≡ 1 → l.b / 2 ^ j % 2 ≡ 1 → ⊥

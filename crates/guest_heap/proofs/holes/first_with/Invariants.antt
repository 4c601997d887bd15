use Rattle.std.proofs.Common.{ℕ, ◌<◌}
use Rattle.guest_heap.specs.Holes.{room}
use Rattle.guest_heap.proofs.holes.first_with.Given as goal

abbrev pub invariant-loop-index : goal.invariant-loop-index
invariant-loop-index l = (k : ℕ) → k < l.index → room l.holes k < l.need

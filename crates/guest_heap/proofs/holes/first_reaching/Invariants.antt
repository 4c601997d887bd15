use Rattle.std.proofs.Common.{ℕ, ◌<◌}
use Rattle.guest_heap.specs.Holes.{end_of}
use Rattle.guest_heap.proofs.holes.first_reaching.Given as goal

abbrev pub invariant-loop-index : goal.invariant-loop-index
invariant-loop-index l = (k : ℕ) → k < l.index → end_of l.holes k < l.unit

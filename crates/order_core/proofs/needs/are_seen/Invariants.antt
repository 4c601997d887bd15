use Rattle.std.proofs.Common.{ℕ, ◌<◌, None, slice_index, slice_index_or}
use Rattle.order_core.specs.inner.Needs.{IsSeen}
use Rattle.order_core.proofs.needs.are_seen.Given as goal

abbrev pub invariant-loop-u : goal.invariant-loop-u
invariant-loop-u l = (u : ℕ) → u < l.u → IsSeen (slice_index_or l.needs u None) (slice_index l.seen u)

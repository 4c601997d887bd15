use Rattle.std.proofs.Common.{◌≡◌, ℕ, length, []}
use Rattle.order_core.specs.Lists.{stream_of}
use Rattle.list_plan.proofs.rows.no_rows.Given as goal

abbrev pub invariant-loop-hart : goal.invariant-loop-hart
invariant-loop-hart l = record {
  count : length l.streams.items ≡ l._hart;
  none : (h : ℕ) → stream_of l.streams.items h ≡ [];
}

use Rattle.std.proofs.Common.{◌≡◌, ◌+◌, length, drop, slice_get}
use Rattle.core_sim.specs.Harts.{live_from, live_harts}
use Rattle.core_sim.proofs.turn.nth_live.Given as goal

abbrev pub invariant-loop-number : goal.invariant-loop-number
invariant-loop-number l = record {
  there : slice_get (live_harts l.harts) l.n ≡ slice_get (live_from l.number (drop l.number l.harts)) l.left;
  count : length (live_harts l.harts) + l.left ≡ length (live_from l.number (drop l.number l.harts)) + l.n;
}

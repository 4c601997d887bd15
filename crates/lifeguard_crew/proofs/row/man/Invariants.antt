use Rattle.std.proofs.Common.{◌≡◌, map}
use Rattle.lifeguard_crew.specs.inner.Slots.{manned}
use Rattle.lifeguard_crew.proofs.row.man.Given as goal

abbrev pub invariant-loop-worker : goal.invariant-loop-worker
invariant-loop-worker g l = l.row.items ≡ map manned l.yielded

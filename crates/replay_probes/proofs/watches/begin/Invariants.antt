use Rattle.std.proofs.Common.{◌≡◌, map}
use Rattle.replay_probes.specs.declared.watch.Watch.TheVariants.{On}
use Rattle.replay_probes.proofs.watches.begin.Given as goal

abbrev pub invariant-loop-probe : goal.invariant-loop-probe
invariant-loop-probe g l = l.watches.items ≡ map On l.yielded

use Rattle.std.proofs.Common.{◌≡◌, map}
use Rattle.replay_probes.proofs.boxed.in_boxes.Given as goal

abbrev pub invariant-loop-probe : goal.invariant-loop-probe
invariant-loop-probe g l = l.boxes.items ≡ map (λ probe. record { probe = probe }) l.yielded

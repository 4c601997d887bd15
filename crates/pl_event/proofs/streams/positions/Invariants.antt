use Rattle.std.proofs.Common.{◌≡◌, ◌++◌, drop}
use Rattle.pl_event.specs.Numbers.{positions_from}
use Rattle.pl_event.proofs.streams.positions.Given as goal

abbrev pub invariant-loop-at : goal.invariant-loop-at
invariant-loop-at l = l.positions.items ++ positions_from l.hart l.at (drop l.at l.lines) ≡ positions_from l.hart 0 l.lines

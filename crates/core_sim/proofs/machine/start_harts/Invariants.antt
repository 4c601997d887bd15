use Rattle.std.proofs.Common.{◌≡◌, ◌++◌, drop}
use Rattle.core_sim.specs.Start.{begin_from}
use Rattle.core_sim.proofs.machine.start_harts.Given as goal

abbrev pub invariant-loop-number : goal.invariant-loop-number
invariant-loop-number l = l.list.items ++ begin_from l.number (drop l.number l.entries) ≡ begin_from 0 l.entries

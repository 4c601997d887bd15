use Rattle.std.proofs.Common.{◌-◌, None, false}
use Rattle.guest_mem.proofs.Repages.{Repages}
use Rattle.guest_mem.proofs.directory.clear.Given as goal

abbrev pub invariant-loop-number : goal.invariant-loop-number
invariant-loop-number l = Repages l.initial.pages l.pages l.first (l.number - l.first) None false false

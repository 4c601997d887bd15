use Rattle.std.proofs.Common.{length}
use Rattle.log_text.proofs.OneFault.{IsDetermined}
use Rattle.log_text.proofs.faults.one_fault.Given as goal

abbrev pub invariant-lines : goal.invariant-lines
invariant-lines l = IsDetermined l.rest → IsDetermined l.initial.rest

abbrev pub decreases-lines : goal.decreases-lines
decreases-lines l = length l.rest

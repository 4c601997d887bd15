use Rattle.std.proofs.Common.{length}
use Rattle.guest_asm.proofs.Reading.{IsRead}
use Rattle.guest_asm.proofs.scan.first_pass.Given as goal

abbrev pub invariant-lines : goal.invariant-lines
invariant-lines l = IsRead l.bytes l.rest l.number l.scan

abbrev pub decreases-lines : goal.decreases-lines
decreases-lines l = length l.rest

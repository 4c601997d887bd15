use Rattle.std.proofs.Common.{◌≡◌, ◌++◌, replicate}
use Rattle.guest_asm.proofs.build.push_zeros.Given as goal

abbrev pub invariant-zeros : goal.invariant-zeros
invariant-zeros l = l.bytes.items ≡ l.fn.bytes.items ++ replicate l.done 0

use Rattle.std.proofs.Common.{arith}
use Rattle.guest_asm.proofs.Pairs.{two_digits}
use Rattle.guest_asm.proofs.directive.pair_at.Goals as goal

pub overflow_cast-result : goal.overflow_cast-result
overflow_cast-result c = omega (arith, two_digits _ _ _ c.in_ok-byte.ensures)

use Rattle.guest_asm.proofs.Listed.{eight}
use Rattle.guest_asm.proofs.laws.eight_digits.Goals as goal

pub returns : goal.returns
returns c = eight

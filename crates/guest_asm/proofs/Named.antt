-- The names of the registers, one by one.
use Rattle.std.proofs.Common.{refl}
use Rattle.guest_asm.specs.Numbers.{digits_of, decimal_of}
use Rattle.guest_asm.specs.Operands.{AreNames, named_registers, numbered_registers, register_of, family, member}

pub named : AreNames named_registers
unfolding register_of family member decimal_of digits_of
named = refl

pub numbered : AreNames numbered_registers
unfolding register_of family member decimal_of digits_of
numbered = refl

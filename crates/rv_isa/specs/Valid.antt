-- Which instructions have a word: every field is in its range.
use Rattle.std.specs.Prelude.{◌≡◌, ℕ, ◌%◌, ◌^◌, ◌<◌, ℤ, pos, neg_ℤ, ◌≤ℤ◌, ◌<ℤ◌, unsigned_abs}
use Rattle.rv_isa.specs.declared.instruction.Instr.{Instr}
use Rattle.rv_isa.specs.declared.instruction.Instr.TheVariants.{Lui, Auipc, Jal, Jalr, Branch, Load, Store, OpImm, Op, Fence, Ecall}
use Rattle.rv_isa.specs.Fields.{Form, Shift, bits}
use Rattle.rv_isa.specs.Table.{row, op_imm}

-- from -2^k to 2^k - 1
abbrev pub IsWithin : ℕ → ℤ → Type 0
IsWithin k z = (neg_ℤ (pos (2 ^ k)) ≤ℤ z) × (z <ℤ pos (2 ^ k))

-- an even number of bytes from -2^k to 2^k - 2
abbrev pub IsOffset : ℕ → ℤ → Type 0
IsOffset k z = IsWithin k z × (unsigned_abs z % 2 ≡ 0)

-- the operand of a shift is its amount
abbrev pub IsOperand : Form → ℤ → Type 0
IsOperand Shift z = (pos 0 ≤ℤ z) × (z <ℤ pos 32)
IsOperand _ z = IsWithin 11 z

abbrev pub IsValid : Instr → Type 0
IsValid (Lui rd imm) = (rd < 32) × (imm < 2 ^ 20)
IsValid (Auipc rd imm) = (rd < 32) × (imm < 2 ^ 20)
IsValid (Jal rd off) = (rd < 32) × IsOffset 20 off
IsValid (Jalr rd rs1 imm) = (rd < 32) × (rs1 < 32) × IsWithin 11 imm
IsValid (Branch o rs1 rs2 off) = (rs1 < 32) × (rs2 < 32) × IsOffset 12 off
IsValid (Load o rd rs1 imm) = (rd < 32) × (rs1 < 32) × IsWithin 11 imm
IsValid (Store o rs2 rs1 imm) = (rs2 < 32) × (rs1 < 32) × IsWithin 11 imm
IsValid (OpImm o rd rs1 imm) = (rd < 32) × (rs1 < 32) × IsOperand (row (op_imm o)).form imm
IsValid (Op o rd rs1 rs2) = (rd < 32) × (rs1 < 32) × (rs2 < 32)
IsValid (Fence free) = (free < 2 ^ 32) × (bits 0 7 free ≡ 0) × (bits 12 3 free ≡ 0)
IsValid Ecall = Unit {0}

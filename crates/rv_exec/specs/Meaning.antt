-- What each instruction does, a case for each mnemonic, over numbers below 2^32.
-- Source: the RISC-V unprivileged specification, "RV32I Base Integer Instruction Set" and the M extension,
-- "Multiplication Operations" and "Division Operations".
use Rattle.std.specs.Prelude.{ℕ, ◌+◌, ◌-◌, ◌*◌, ◌/◌, ◌%◌, ◌^◌, ◌==◌, Bool, ◌&&◌, not, nat_lt, if◌then◌else◌, ℤ, pos, ◌*ℤ◌, int_lt, int_div, int_rem, bit_and, bit_or, bit_xor, Option, Some, None}
use Rattle.std.specs.Int.{w8, w16, w32, w64, cast_signed, cast_unsigned, int_shr}
use Rattle.pl_base.specs.declared.widths.LoadWidth.{LoadWidth}
use Rattle.pl_base.specs.declared.widths.LoadWidth.TheVariants as loads
use Rattle.rv_isa.specs.declared.instruction.BranchOp.{BranchOp}
use Rattle.rv_isa.specs.declared.instruction.BranchOp.TheVariants.{Beq, Bne, Blt, Bge, Bltu, Bgeu}
use Rattle.rv_isa.specs.declared.instruction.ImmOp.{ImmOp}
use Rattle.rv_isa.specs.declared.instruction.ImmOp.TheVariants.{Addi, Slti, Sltiu, Xori, Ori, Andi, Slli, Srli, Srai}
use Rattle.rv_isa.specs.declared.instruction.RegOp.{RegOp}
use Rattle.rv_isa.specs.declared.instruction.RegOp.TheVariants.{Add, Sub, Sll, Slt, Sltu, Xor, Srl, Sra, Or, And, Mul, Mulh, Mulhsu, Mulhu, Div, Divu, Rem, Remu}
use Rattle.rv_isa.specs.declared.instruction.Instr.{Instr}
use Rattle.rv_isa.specs.declared.instruction.Instr.TheVariants as instrs
use Rattle.rv_exec.specs.declared.effect.Effect.{Effect}
use Rattle.rv_exec.specs.declared.effect.Effect.TheVariants.{Plain, Load, Store, Call, Illegal}
use Rattle.rv_exec.specs.Hart.{Hart, x, written}

-- a number of 32 bits read as two's complement, and back
abbrev pub signed : ℕ → ℤ
signed n = cast_signed w32 n

abbrev pub unsigned : ℤ → ℕ
unsigned z = cast_unsigned w32 z

-- the high 32 bits of a product of 64
abbrev pub high : ℤ → ℕ
high product = cast_unsigned w64 product / 2 ^ 32

-- -2^31 by -1, the one quotient that does not fit
abbrev pub is_overflow : ℕ → ℕ → Bool
is_overflow a b = (a == 2 ^ 31) && (b == 2 ^ 32 - 1)

-- 1 where a test holds, and else 0
abbrev pub flag : Bool → ℕ
flag test = if test then 1 else 0

-- what an operation on two registers gives
abbrev pub result_of : RegOp → ℕ → ℕ → ℕ
result_of Add a b = (a + b) % 2 ^ 32
result_of Sub a b = (a + (2 ^ 32 - b)) % 2 ^ 32
result_of Sll a b = a * 2 ^ (b % 32) % 2 ^ 32
result_of Slt a b = flag (int_lt (signed a) (signed b))
result_of Sltu a b = flag (nat_lt a b)
result_of Xor a b = bit_xor a b
result_of Srl a b = a / 2 ^ (b % 32)
result_of Sra a b = unsigned (int_shr (signed a) (b % 32))
result_of Or a b = bit_or a b
result_of And a b = bit_and a b
result_of Mul a b = a * b % 2 ^ 32
result_of Mulh a b = high (signed a *ℤ signed b)
result_of Mulhsu a b = high (signed a *ℤ pos b)
result_of Mulhu a b = high (pos a *ℤ pos b)
result_of Div a b =
    if b == 0 then 2 ^ 32 - 1 else (if is_overflow a b then 2 ^ 31 else unsigned (int_div (signed a) (signed b)))
result_of Divu a b = if b == 0 then 2 ^ 32 - 1 else a / b
result_of Rem a b = if b == 0 then a else (if is_overflow a b then 0 else unsigned (int_rem (signed a) (signed b)))
result_of Remu a b = if b == 0 then a else a % b

-- the operation that one on an immediate does with the immediate's 32 bits
abbrev pub on_registers : ImmOp → RegOp
on_registers Addi = Add
on_registers Slti = Slt
on_registers Sltiu = Sltu
on_registers Xori = Xor
on_registers Ori = Or
on_registers Andi = And
on_registers Slli = Sll
on_registers Srli = Srl
on_registers Srai = Sra

-- whether a branch is taken
abbrev pub is_taken : BranchOp → ℕ → ℕ → Bool
is_taken Beq a b = a == b
is_taken Bne a b = not (a == b)
is_taken Blt a b = int_lt (signed a) (signed b)
is_taken Bge a b = not (int_lt (signed a) (signed b))
is_taken Bltu a b = nat_lt a b
is_taken Bgeu a b = not (nat_lt a b)

-- the bytes that were loaded, with the sign spread by lb and lh
abbrev pub extended : LoadWidth → ℕ → ℕ
extended loads.B raw = unsigned (cast_signed w8 (raw % 2 ^ 8))
extended loads.H raw = unsigned (cast_signed w16 (raw % 2 ^ 16))
extended loads.W raw = raw
extended loads.Bu raw = raw % 2 ^ 8
extended loads.Hu raw = raw % 2 ^ 16

-- so many bytes on from an address
abbrev pub moved : ℕ → ℤ → ℕ
moved address offset = (address + unsigned offset) % 2 ^ 32

abbrev pub next_pc : Hart → ℕ
next_pc h = (h.pc + 4) % 2 ^ 32

-- the hart after a write of a register, at an address
abbrev pub after : Hart → ℕ → ℕ → ℕ → Hart
after h rd value pc = record { pc = pc; registers = written rd value h.registers }

abbrev pub at_pc : Hart → ℕ → Hart
at_pc h pc = record { pc = pc; registers = h.registers }

-- the next state, or a request of the memory, or a call of the kernel
abbrev pub effect_of : Hart → Instr → Effect
effect_of h (instrs.Lui rd imm) = Plain (instrs.Lui rd imm) (after h rd (imm * 2 ^ 12) (next_pc h))
effect_of h (instrs.Auipc rd imm) =
    Plain (instrs.Auipc rd imm) (after h rd ((h.pc + imm * 2 ^ 12) % 2 ^ 32) (next_pc h))
effect_of h (instrs.Jal rd off) = Plain (instrs.Jal rd off) (after h rd (next_pc h) (moved h.pc off))
effect_of h (instrs.Jalr rd rs1 imm) =
    Plain (instrs.Jalr rd rs1 imm) (after h rd (next_pc h) (moved (x h rs1) imm / 2 * 2))
effect_of h (instrs.Branch op rs1 rs2 off) =
    Plain (instrs.Branch op rs1 rs2 off)
    (at_pc h (if is_taken op (x h rs1) (x h rs2) then moved h.pc off else next_pc h))
effect_of h (instrs.Load width rd rs1 imm) = Load (instrs.Load width rd rs1 imm) (moved (x h rs1) imm)
effect_of h (instrs.Store width rs2 rs1 imm) = Store (instrs.Store width rs2 rs1 imm) (moved (x h rs1) imm) (x h rs2)
effect_of h (instrs.OpImm op rd rs1 imm) =
    Plain (instrs.OpImm op rd rs1 imm) (after h rd (result_of (on_registers op) (x h rs1) (unsigned imm)) (next_pc h))
effect_of h (instrs.Op op rd rs1 rs2) =
    Plain (instrs.Op op rd rs1 rs2) (after h rd (result_of op (x h rs1) (x h rs2)) (next_pc h))
effect_of h (instrs.Fence free) = Plain (instrs.Fence free) (at_pc h (next_pc h))
effect_of h instrs.Ecall = Call

-- what a word does that is this instruction, or none
abbrev pub effect_at : Hart → Option Instr → Effect
effect_at h None = Illegal
effect_at h (Some i) = effect_of h i

-- an instruction that needs neither memory nor the kernel
abbrev pub IsPlain : Instr → Type 0
IsPlain (instrs.Load width rd rs1 imm) = ⊥
IsPlain (instrs.Store width rs2 rs1 imm) = ⊥
IsPlain instrs.Ecall = ⊥
IsPlain _ = Unit {0}

abbrev pub IsLoad : Instr → Type 0
IsLoad (instrs.Load width rd rs1 imm) = Unit {0}
IsLoad _ = ⊥

-- the hart after a load got its bytes
abbrev pub loaded : Hart → Instr → ℕ → Hart
loaded h (instrs.Load width rd rs1 imm) raw = after h rd (extended width raw) (next_pc h)
loaded h _ raw = h

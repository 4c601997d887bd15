-- The event of each instruction that needs neither memory nor the kernel.
use Rattle.std.specs.Prelude.{ℕ, ℤ, Option, Some, None, ◌==◌, ◌&&◌, Bool, true, false, if◌then◌else◌, unsigned_abs}
use Rattle.rv_isa.specs.declared.instruction.ImmOp.{ImmOp}
use Rattle.rv_isa.specs.declared.instruction.ImmOp.TheVariants.{Addi}
use Rattle.rv_isa.specs.declared.instruction.RegOp.{RegOp}
use Rattle.rv_isa.specs.declared.instruction.RegOp.TheVariants.{Xor, Sub}
use Rattle.rv_isa.specs.declared.instruction.Instr.{Instr}
use Rattle.rv_isa.specs.declared.instruction.Instr.TheVariants as instrs
use Rattle.pl_event.specs.declared.event.Kind.{Kind}
use Rattle.pl_event.specs.declared.event.Kind.TheVariants.{Op, Mv, Im, Br, Jr}

-- the sum with 0, which is a copy
abbrev pub is_copy : ImmOp → ℤ → Bool
is_copy Addi imm = unsigned_abs imm == 0
is_copy _ imm = false

-- of a register and itself these two give 0
abbrev pub cancels : RegOp → Bool
cancels Xor = true
cancels Sub = true
cancels _ = false

-- an operation on an immediate, and one on registers
abbrev pub of_immediate : ImmOp → ℕ → ℕ → ℤ → Kind
of_immediate op rd rs1 imm = if rs1 == 0 then Im rd else (if is_copy op imm then Mv rd rs1 else Op rd rs1 0)

abbrev pub of_registers : RegOp → ℕ → ℕ → ℕ → Kind
of_registers op rd rs1 rs2 = if cancels op && (rs1 == rs2) then Im rd else Op rd rs1 rs2

-- the table; a load, a store and a call of the kernel have the event of what they come to
abbrev pub kind_of : Instr → Option Kind
kind_of (instrs.Lui rd imm) = Some (Im rd)
kind_of (instrs.Auipc rd imm) = Some (Im rd)
kind_of (instrs.Jal rd off) = Some (Im rd)
kind_of (instrs.Jalr rd rs1 imm) = Some (Jr rd rs1)
kind_of (instrs.Branch op rs1 rs2 off) = Some (Br rs1 rs2)
kind_of (instrs.OpImm op rd rs1 imm) = Some (of_immediate op rd rs1 imm)
kind_of (instrs.Op op rd rs1 rs2) = Some (of_registers op rd rs1 rs2)
kind_of (instrs.Fence bits) = Some (Im 0)
kind_of (instrs.Load width rd rs1 imm) = None
kind_of (instrs.Store width rs2 rs1 imm) = None
kind_of instrs.Ecall = None

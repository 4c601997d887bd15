-- How an instruction is shown: the mnemonic, and operands parted by a comma and a blank.
use Rattle.std.specs.Prelude.{ℕ, ℤ, List, [], ◌++◌, codes}
use Rattle.std.specs.Fmt.{decimal, signed_decimal}
use Rattle.rv_isa.specs.declared.instruction.Instr.{Instr}
use Rattle.rv_isa.specs.declared.instruction.Instr.TheVariants.{Lui, Auipc, Jal, Jalr, Branch, Load, Store, OpImm, Op, Fence, Ecall}
use Rattle.rv_isa.specs.Table.{Operation, row, lui, auipc, jal, jalr, branch, load, store, op_imm, op, fence, ecall}

abbrev pub operation : Instr → Operation
operation (Lui rd imm) = lui
operation (Auipc rd imm) = auipc
operation (Jal rd off) = jal
operation (Jalr rd rs1 imm) = jalr
operation (Branch o rs1 rs2 off) = branch o
operation (Load o rd rs1 imm) = load o
operation (Store o rs2 rs1 imm) = store o
operation (OpImm o rd rs1 imm) = op_imm o
operation (Op o rd rs1 rs2) = op o
operation (Fence free) = fence
operation Ecall = ecall

-- x0 to x31
abbrev pub register : ℕ → List ℕ
register r = codes "x" ++ decimal r

-- an address: the offset, and the register in brackets
abbrev pub address : ℤ → ℕ → List ℕ
address imm r = signed_decimal imm ++ codes "(" ++ register r ++ codes ")"

abbrev pub two : List ℕ → List ℕ → List ℕ
two a b = codes " " ++ a ++ codes ", " ++ b

abbrev pub three : List ℕ → List ℕ → List ℕ → List ℕ
three a b c = two a b ++ codes ", " ++ c

-- what follows the mnemonic
abbrev pub operands : Instr → List ℕ
operands (Lui rd imm) = two (register rd) (decimal imm)
operands (Auipc rd imm) = two (register rd) (decimal imm)
operands (Jal rd off) = two (register rd) (signed_decimal off)
operands (Jalr rd rs1 imm) = two (register rd) (address imm rs1)
operands (Branch o rs1 rs2 off) = three (register rs1) (register rs2) (signed_decimal off)
operands (Load o rd rs1 imm) = two (register rd) (address imm rs1)
operands (Store o rs2 rs1 imm) = two (register rs2) (address imm rs1)
operands (OpImm o rd rs1 imm) = three (register rd) (register rs1) (signed_decimal imm)
operands (Op o rd rs1 rs2) = three (register rd) (register rs1) (register rs2)
operands (Fence free) = []
operands Ecall = []

abbrev pub text : Instr → List ℕ
text i = (row (operation i)).mnemonic ++ operands i

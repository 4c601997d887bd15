-- The instruction set as one table: a row for each mnemonic.
-- Source: the RISC-V unprivileged specification, "RV32/64G Instruction Set Listings", the tables of RV32I and RV32M.
use Rattle.std.specs.Prelude.{◌==◌, ℕ, ◌+◌, ◌*◌, ◌^◌, List, [], ◌∷◌, Bool, IsTrue, Option, codes, find}
use Rattle.std.specs.List.{list_all}
use Rattle.std.specs.Option.{option_map}
use Rattle.pl_base.specs.declared.widths.LoadWidth.{LoadWidth}
use Rattle.pl_base.specs.declared.widths.LoadWidth.TheVariants as loads
use Rattle.pl_base.specs.declared.widths.StoreWidth.{StoreWidth}
use Rattle.pl_base.specs.declared.widths.StoreWidth.TheVariants as stores
use Rattle.rv_isa.specs.declared.instruction.BranchOp.{BranchOp}
use Rattle.rv_isa.specs.declared.instruction.BranchOp.TheVariants.{Beq, Bne, Blt, Bge, Bltu, Bgeu}
use Rattle.rv_isa.specs.declared.instruction.ImmOp.{ImmOp}
use Rattle.rv_isa.specs.declared.instruction.ImmOp.TheVariants.{Addi, Slti, Sltiu, Xori, Ori, Andi, Slli, Srli, Srai}
use Rattle.rv_isa.specs.declared.instruction.RegOp.{RegOp}
use Rattle.rv_isa.specs.declared.instruction.RegOp.TheVariants.{Add, Sub, Sll, Slt, Sltu, Xor, Srl, Sra, Or, And, Mul, Mulh, Mulhsu, Mulhu, Div, Divu, Rem, Remu}
use Rattle.rv_isa.specs.declared.instruction.Instr.{Instr}
use Rattle.rv_isa.specs.declared.instruction.Instr.TheVariants.{Lui, Auipc, Jal, Jalr, Branch, Load, Store, OpImm, Op, Fence, Ecall}
use Rattle.rv_isa.specs.Fields.{bits, rd_of, rs1_of, rs2_of, Form, R, I, S, B, U, J, Shift, Free, Whole, immediate}

-- an instruction without its fields
pub data Operation : Type 0 where
  lui : Operation
  auipc : Operation
  jal : Operation
  jalr : Operation
  branch : BranchOp → Operation
  load : LoadWidth → Operation
  store : StoreWidth → Operation
  op_imm : ImmOp → Operation
  op : RegOp → Operation
  fence : Operation
  ecall : Operation

-- bits of a word that have one value
pub record Fixed : Type 0 where
  pub low : ℕ
  pub count : ℕ
  pub value : ℕ

abbrev pub opcode : ℕ → Fixed
opcode value = record { low = 0; count = 7; value = value }

abbrev pub funct3 : ℕ → Fixed
funct3 value = record { low = 12; count = 3; value = value }

abbrev pub funct7 : ℕ → Fixed
funct7 value = record { low = 25; count = 7; value = value }

-- the bits above the opcode
abbrev pub upper : ℕ → Fixed
upper value = record { low = 7; count = 25; value = value }

pub record Row : Type 0 where
  pub mnemonic : List ℕ
  pub form : Form
  pub fixed : List Fixed

abbrev pub entry : List ℕ → Form → List Fixed → Row
entry mnemonic form fixed = record { mnemonic = mnemonic; form = form; fixed = fixed }

-- the table
abbrev pub row : Operation → Row
row lui = entry (codes "lui") U (opcode 0b0110111 ∷ [])
row auipc = entry (codes "auipc") U (opcode 0b0010111 ∷ [])
row jal = entry (codes "jal") J (opcode 0b1101111 ∷ [])
row jalr = entry (codes "jalr") I (opcode 0b1100111 ∷ funct3 0b000 ∷ [])
row (branch Beq) = entry (codes "beq") B (opcode 0b1100011 ∷ funct3 0b000 ∷ [])
row (branch Bne) = entry (codes "bne") B (opcode 0b1100011 ∷ funct3 0b001 ∷ [])
row (branch Blt) = entry (codes "blt") B (opcode 0b1100011 ∷ funct3 0b100 ∷ [])
row (branch Bge) = entry (codes "bge") B (opcode 0b1100011 ∷ funct3 0b101 ∷ [])
row (branch Bltu) = entry (codes "bltu") B (opcode 0b1100011 ∷ funct3 0b110 ∷ [])
row (branch Bgeu) = entry (codes "bgeu") B (opcode 0b1100011 ∷ funct3 0b111 ∷ [])
row (load loads.B) = entry (codes "lb") I (opcode 0b0000011 ∷ funct3 0b000 ∷ [])
row (load loads.H) = entry (codes "lh") I (opcode 0b0000011 ∷ funct3 0b001 ∷ [])
row (load loads.W) = entry (codes "lw") I (opcode 0b0000011 ∷ funct3 0b010 ∷ [])
row (load loads.Bu) = entry (codes "lbu") I (opcode 0b0000011 ∷ funct3 0b100 ∷ [])
row (load loads.Hu) = entry (codes "lhu") I (opcode 0b0000011 ∷ funct3 0b101 ∷ [])
row (store stores.B) = entry (codes "sb") S (opcode 0b0100011 ∷ funct3 0b000 ∷ [])
row (store stores.H) = entry (codes "sh") S (opcode 0b0100011 ∷ funct3 0b001 ∷ [])
row (store stores.W) = entry (codes "sw") S (opcode 0b0100011 ∷ funct3 0b010 ∷ [])
row (op_imm Addi) = entry (codes "addi") I (opcode 0b0010011 ∷ funct3 0b000 ∷ [])
row (op_imm Slti) = entry (codes "slti") I (opcode 0b0010011 ∷ funct3 0b010 ∷ [])
row (op_imm Sltiu) = entry (codes "sltiu") I (opcode 0b0010011 ∷ funct3 0b011 ∷ [])
row (op_imm Xori) = entry (codes "xori") I (opcode 0b0010011 ∷ funct3 0b100 ∷ [])
row (op_imm Ori) = entry (codes "ori") I (opcode 0b0010011 ∷ funct3 0b110 ∷ [])
row (op_imm Andi) = entry (codes "andi") I (opcode 0b0010011 ∷ funct3 0b111 ∷ [])
row (op_imm Slli) = entry (codes "slli") Shift (opcode 0b0010011 ∷ funct3 0b001 ∷ funct7 0b0000000 ∷ [])
row (op_imm Srli) = entry (codes "srli") Shift (opcode 0b0010011 ∷ funct3 0b101 ∷ funct7 0b0000000 ∷ [])
row (op_imm Srai) = entry (codes "srai") Shift (opcode 0b0010011 ∷ funct3 0b101 ∷ funct7 0b0100000 ∷ [])
row (op Add) = entry (codes "add") R (opcode 0b0110011 ∷ funct3 0b000 ∷ funct7 0b0000000 ∷ [])
row (op Sll) = entry (codes "sll") R (opcode 0b0110011 ∷ funct3 0b001 ∷ funct7 0b0000000 ∷ [])
row (op Slt) = entry (codes "slt") R (opcode 0b0110011 ∷ funct3 0b010 ∷ funct7 0b0000000 ∷ [])
row (op Sltu) = entry (codes "sltu") R (opcode 0b0110011 ∷ funct3 0b011 ∷ funct7 0b0000000 ∷ [])
row (op Xor) = entry (codes "xor") R (opcode 0b0110011 ∷ funct3 0b100 ∷ funct7 0b0000000 ∷ [])
row (op Srl) = entry (codes "srl") R (opcode 0b0110011 ∷ funct3 0b101 ∷ funct7 0b0000000 ∷ [])
row (op Or) = entry (codes "or") R (opcode 0b0110011 ∷ funct3 0b110 ∷ funct7 0b0000000 ∷ [])
row (op And) = entry (codes "and") R (opcode 0b0110011 ∷ funct3 0b111 ∷ funct7 0b0000000 ∷ [])
row (op Sub) = entry (codes "sub") R (opcode 0b0110011 ∷ funct3 0b000 ∷ funct7 0b0100000 ∷ [])
row (op Sra) = entry (codes "sra") R (opcode 0b0110011 ∷ funct3 0b101 ∷ funct7 0b0100000 ∷ [])
row (op Mul) = entry (codes "mul") R (opcode 0b0110011 ∷ funct3 0b000 ∷ funct7 0b0000001 ∷ [])
row (op Mulh) = entry (codes "mulh") R (opcode 0b0110011 ∷ funct3 0b001 ∷ funct7 0b0000001 ∷ [])
row (op Mulhsu) = entry (codes "mulhsu") R (opcode 0b0110011 ∷ funct3 0b010 ∷ funct7 0b0000001 ∷ [])
row (op Mulhu) = entry (codes "mulhu") R (opcode 0b0110011 ∷ funct3 0b011 ∷ funct7 0b0000001 ∷ [])
row (op Div) = entry (codes "div") R (opcode 0b0110011 ∷ funct3 0b100 ∷ funct7 0b0000001 ∷ [])
row (op Divu) = entry (codes "divu") R (opcode 0b0110011 ∷ funct3 0b101 ∷ funct7 0b0000001 ∷ [])
row (op Rem) = entry (codes "rem") R (opcode 0b0110011 ∷ funct3 0b110 ∷ funct7 0b0000001 ∷ [])
row (op Remu) = entry (codes "remu") R (opcode 0b0110011 ∷ funct3 0b111 ∷ funct7 0b0000001 ∷ [])
row fence = entry (codes "fence") Free (opcode 0b0001111 ∷ funct3 0b000 ∷ [])
row ecall = entry (codes "ecall") Whole (opcode 0b1110011 ∷ upper 0 ∷ [])

-- the operations in the order of the table
abbrev pub operations : List Operation
operations =
    lui ∷ auipc ∷ jal ∷ jalr
    ∷ branch Beq ∷ branch Bne ∷ branch Blt ∷ branch Bge ∷ branch Bltu ∷ branch Bgeu
    ∷ load loads.B ∷ load loads.H ∷ load loads.W ∷ load loads.Bu ∷ load loads.Hu
    ∷ store stores.B ∷ store stores.H ∷ store stores.W
    ∷ op_imm Addi ∷ op_imm Slti ∷ op_imm Sltiu ∷ op_imm Xori ∷ op_imm Ori ∷ op_imm Andi
    ∷ op_imm Slli ∷ op_imm Srli ∷ op_imm Srai
    ∷ op Add ∷ op Sll ∷ op Slt ∷ op Sltu ∷ op Xor ∷ op Srl ∷ op Or ∷ op And ∷ op Sub ∷ op Sra
    ∷ op Mul ∷ op Mulh ∷ op Mulhsu ∷ op Mulhu ∷ op Div ∷ op Divu ∷ op Rem ∷ op Remu
    ∷ fence ∷ ecall ∷ []

-- the word has the fixed bits of the operation's row
abbrev pub is_in : ℕ → Operation → Bool
is_in word o = list_all (λ f. bits f.low f.count word == f.value) (row o).fixed

abbrev pub IsIn : ℕ → Operation → Type 0
IsIn word o = IsTrue (is_in word o)

-- the operation with the fields that a word has for it
abbrev pub with_fields : Operation → ℕ → Instr
with_fields lui word = Lui (rd_of word) (bits 12 20 word)
with_fields auipc word = Auipc (rd_of word) (bits 12 20 word)
with_fields jal word = Jal (rd_of word) (immediate J word)
with_fields jalr word = Jalr (rd_of word) (rs1_of word) (immediate I word)
with_fields (branch o) word = Branch o (rs1_of word) (rs2_of word) (immediate B word)
with_fields (load o) word = Load o (rd_of word) (rs1_of word) (immediate I word)
with_fields (store o) word = Store o (rs2_of word) (rs1_of word) (immediate S word)
with_fields (op_imm o) word = OpImm o (rd_of word) (rs1_of word) (immediate (row (op_imm o)).form word)
with_fields (op o) word = Op o (rd_of word) (rs1_of word) (rs2_of word)
with_fields fence word = Fence (bits 15 17 word * 2 ^ 15 + bits 7 5 word * 2 ^ 7)
with_fields ecall word = Ecall

-- the operation of the first row that a word is in
unfoldable pub operation_of : ℕ → Option Operation
operation_of word = find (is_in word) operations

-- the instruction that a word is
unfoldable pub instruction_of : ℕ → Option Instr
instruction_of word = option_map (λ o. with_fields o word) (operation_of word)

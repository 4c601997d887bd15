-- The instructions of a text: mnemonics with their operands, and the pseudo-instructions.
use Rattle.std.specs.Prelude.{ℕ, ◌/◌, ◌%◌, ◌^◌, List, [], ◌∷◌, map, codes, find, Option, Some, None, unwrap_or, if◌then◌else◌, ℤ, pos, ◌-ℤ◌, unsigned_abs}
use Rattle.std.specs.Option.{option_map, option_copied}
use Rattle.std.specs.Borrow.{Bor}
use Rattle.std.specs.Str.{bytes_eq}
use Rattle.pl_base.specs.declared.widths.LoadWidth.{LoadWidth}
use Rattle.pl_base.specs.declared.widths.LoadWidth.TheVariants as loads
use Rattle.pl_base.specs.declared.widths.StoreWidth.{StoreWidth}
use Rattle.pl_base.specs.declared.widths.StoreWidth.TheVariants as stores
use Rattle.rv_isa.specs.declared.instruction.BranchOp.{BranchOp}
use Rattle.rv_isa.specs.declared.instruction.BranchOp.TheVariants.{Beq, Bne, Blt, Bge, Bltu, Bgeu}
use Rattle.rv_isa.specs.declared.instruction.ImmOp.{ImmOp}
use Rattle.rv_isa.specs.declared.instruction.ImmOp.TheVariants.{Addi, Slti, Sltiu, Xori, Ori, Andi, Slli, Srli, Srai}
use Rattle.rv_isa.specs.declared.instruction.RegOp.{RegOp}
use Rattle.rv_isa.specs.declared.instruction.RegOp.TheVariants.{Add, Sub, Sll, Slt, Sltu, Xor, Srl, Sra, Or, And, Mul, Mulh, Mulhsu, Mulhu, Div, Divu, Rem, Remu}
use Rattle.rv_isa.specs.declared.instruction.Instr.{Instr}
use Rattle.rv_isa.specs.declared.instruction.Instr.TheVariants as instr
use Rattle.rv_isa.specs.Fields.{signed}
use Rattle.rv_isa.specs.Table.{row, branch, load, store, op_imm, op}
use Rattle.rv_isa.specs.Valid.{IsValid}
use Rattle.guest_asm.specs.declared.number.Number.{Number}
use Rattle.guest_asm.specs.declared.code.Code.{Code}
use Rattle.guest_asm.specs.declared.code.Code.TheVariants as code
use Rattle.guest_asm.specs.Numbers.{number_in}
use Rattle.guest_asm.specs.Operands.{◌>>=◌, register_in, immediate_of, immediate_in, shift_in, upper_in, address_in, label_in}

-- the operation whose mnemonic a name is
unfoldable pub branch_named : List ℕ → Option BranchOp
branch_named name = find (λ o. bytes_eq name (row (branch o)).mnemonic) (Beq ∷ Bne ∷ Blt ∷ Bge ∷ Bltu ∷ Bgeu ∷ [])

unfoldable pub load_named : List ℕ → Option LoadWidth
load_named name =
    find (λ o. bytes_eq name (row (load o)).mnemonic) (loads.B ∷ loads.H ∷ loads.W ∷ loads.Bu ∷ loads.Hu ∷ [])

unfoldable pub store_named : List ℕ → Option StoreWidth
store_named name = find (λ o. bytes_eq name (row (store o)).mnemonic) (stores.B ∷ stores.H ∷ stores.W ∷ [])

unfoldable pub immediate_named : List ℕ → Option ImmOp
immediate_named name =
    find (λ o. bytes_eq name (row (op_imm o)).mnemonic) (Addi ∷ Slti ∷ Sltiu ∷ Xori ∷ Ori ∷ Andi ∷ [])

unfoldable pub shift_named : List ℕ → Option ImmOp
shift_named name = find (λ o. bytes_eq name (row (op_imm o)).mnemonic) (Slli ∷ Srli ∷ Srai ∷ [])

unfoldable pub base_named : List ℕ → Option RegOp
base_named name =
    find (λ o. bytes_eq name (row (op o)).mnemonic) (Add ∷ Sll ∷ Slt ∷ Sltu ∷ Xor ∷ Srl ∷ Or ∷ And ∷ Sub ∷ Sra ∷ [])

unfoldable pub multiply_named : List ℕ → Option RegOp
multiply_named name =
    find (λ o. bytes_eq name (row (op o)).mnemonic) (Mul ∷ Mulh ∷ Mulhsu ∷ Mulhu ∷ Div ∷ Divu ∷ Rem ∷ Remu ∷ [])

-- an instruction with the label that it names, if it names one
abbrev pub Coded : Type 0
Coded = Code × Option (List ℕ)

-- the same without where the label lies in memory
abbrev pub coded : Code × Option (Bor (List ℕ)) → Coded
coded r = (r.0, option_copied r.1)

-- the parts of the operands without where they lie in memory
abbrev pub texts : List (Bor (List ℕ)) → List (List ℕ)
texts parts = map (λ part. part.now) parts

-- an instruction that names no label
abbrev pub alone : Instr → Coded
alone i = (code.One i, None)

-- each instruction has a word
abbrev pub IsValidCode : Code → Type 0
IsValidCode (code.One i) = IsValid i
IsValidCode (code.Two i j) = IsValid i × IsValid j
IsValidCode (code.Jump rd) = IsValid (instr.Jal rd (pos 0))
IsValidCode (code.Branch o rs1 rs2) = IsValid (instr.Branch o rs1 rs2 (pos 0))
IsValidCode (code.Address rd) = IsValid (instr.Jal rd (pos 0))

-- the low 12 bits as a signed number
abbrev pub low_part : ℕ → ℤ
low_part value = signed (2 ^ 11) (value % 2 ^ 12)

-- the number of 20 bits above it: a value less its low part, which is a multiple of 4096 and not below 0, by 4096
abbrev pub upper_part : ℕ → ℕ
upper_part value = unsigned_abs (pos value -ℤ low_part value) / 2 ^ 12 % 2 ^ 20

abbrev pub lui_of : ℕ → ℕ → Instr
lui_of rd value = instr.Lui rd (upper_part value)

abbrev pub addi_of : ℕ → ℕ → Instr
addi_of rd value = instr.OpImm Addi rd rd (low_part value)

unfoldable pub branch_code : BranchOp → List (List ℕ) → Option Coded
branch_code o (a ∷ b ∷ l ∷ []) = do
  rs1 ← register_in a
  rs2 ← register_in b
  label ← label_in l
  Some (code.Branch o rs1 rs2, Some label)
branch_code o _ = None

unfoldable pub load_code : LoadWidth → List (List ℕ) → Option Coded
load_code width (a ∷ m ∷ []) = do
  rd ← register_in a
  from ← address_in m
  Some (alone (instr.Load width rd from.1 from.0))
load_code width _ = None

unfoldable pub store_code : StoreWidth → List (List ℕ) → Option Coded
store_code width (a ∷ m ∷ []) = do
  rs2 ← register_in a
  to ← address_in m
  Some (alone (instr.Store width rs2 to.1 to.0))
store_code width _ = None

unfoldable pub immediate_code : ImmOp → List (List ℕ) → Option Coded
immediate_code o (a ∷ b ∷ n ∷ []) = do
  rd ← register_in a
  rs1 ← register_in b
  imm ← immediate_in n
  Some (alone (instr.OpImm o rd rs1 imm))
immediate_code o _ = None

unfoldable pub shift_code : ImmOp → List (List ℕ) → Option Coded
shift_code o (a ∷ b ∷ n ∷ []) = do
  rd ← register_in a
  rs1 ← register_in b
  amount ← shift_in n
  Some (alone (instr.OpImm o rd rs1 amount))
shift_code o _ = None

unfoldable pub register_code : RegOp → List (List ℕ) → Option Coded
register_code o (a ∷ b ∷ c ∷ []) = do
  rd ← register_in a
  rs1 ← register_in b
  rs2 ← register_in c
  Some (alone (instr.Op o rd rs1 rs2))
register_code o _ = None

unfoldable pub lui_code : List (List ℕ) → Option Coded
lui_code (a ∷ n ∷ []) = do
  rd ← register_in a
  imm ← upper_in n
  Some (alone (instr.Lui rd imm))
lui_code _ = None

unfoldable pub auipc_code : List (List ℕ) → Option Coded
auipc_code (a ∷ n ∷ []) = do
  rd ← register_in a
  imm ← upper_in n
  Some (alone (instr.Auipc rd imm))
auipc_code _ = None

unfoldable pub jal_code : List (List ℕ) → Option Coded
jal_code (a ∷ l ∷ []) = do
  rd ← register_in a
  label ← label_in l
  Some (code.Jump rd, Some label)
jal_code _ = None

unfoldable pub jalr_code : List (List ℕ) → Option Coded
jalr_code (a ∷ m ∷ []) = do
  rd ← register_in a
  to ← address_in m
  Some (alone (instr.Jalr rd to.1 to.0))
jalr_code _ = None

-- a number up to 12 bits by addi alone, and else by lui and addi
unfoldable pub constant : ℕ → Number → Code
constant rd n =
    unwrap_or (option_map (λ imm. code.One (instr.OpImm Addi rd 0 imm)) (immediate_of n))
    (code.Two (lui_of rd n.bits) (addi_of rd n.bits))

unfoldable pub li_code : List (List ℕ) → Option Coded
li_code (a ∷ n ∷ []) = do
  rd ← register_in a
  value ← number_in n
  Some (constant rd value, None)
li_code _ = None

unfoldable pub la_code : List (List ℕ) → Option Coded
la_code (a ∷ l ∷ []) = do
  rd ← register_in a
  label ← label_in l
  Some (code.Address rd, Some label)
la_code _ = None

unfoldable pub mv_code : List (List ℕ) → Option Coded
mv_code (a ∷ b ∷ []) = do
  rd ← register_in a
  rs1 ← register_in b
  Some (alone (instr.OpImm Addi rd rs1 (pos 0)))
mv_code _ = None

unfoldable pub j_code : List (List ℕ) → Option Coded
j_code (l ∷ []) = do
  label ← label_in l
  Some (code.Jump 0, Some label)
j_code _ = None

-- a branch on whether a register is 0
unfoldable pub zero_code : BranchOp → List (List ℕ) → Option Coded
zero_code o (a ∷ l ∷ []) = do
  rs1 ← register_in a
  label ← label_in l
  Some (code.Branch o rs1 0, Some label)
zero_code o _ = None

-- an instruction without operands
unfoldable pub bare_code : Instr → List (List ℕ) → Option Coded
bare_code i [] = Some (alone i)
bare_code i _ = None

-- the word 0ff0000f
abbrev pub full_fence : Instr
full_fence = instr.Fence 0x0ff00000

unfoldable pub pseudo_code : List ℕ → List (List ℕ) → Option Coded
pseudo_code name parts =
    if bytes_eq name (codes "li") then li_code parts
    else (if bytes_eq name (codes "la") then la_code parts
    else (if bytes_eq name (codes "mv") then mv_code parts
    else (if bytes_eq name (codes "nop") then bare_code (instr.OpImm Addi 0 0 (pos 0)) parts
    else (if bytes_eq name (codes "j") then j_code parts
    else (if bytes_eq name (codes "ret") then bare_code (instr.Jalr 0 1 (pos 0)) parts
    else (if bytes_eq name (codes "beqz") then zero_code Beq parts
    else (if bytes_eq name (codes "bnez") then zero_code Bne parts else None)))))))

unfoldable pub other_code : List ℕ → List (List ℕ) → Option Coded
other_code name parts =
    if bytes_eq name (codes "lui") then lui_code parts
    else (if bytes_eq name (codes "auipc") then auipc_code parts
    else (if bytes_eq name (codes "jal") then jal_code parts
    else (if bytes_eq name (codes "jalr") then jalr_code parts
    else (if bytes_eq name (codes "fence") then bare_code full_fence parts
    else (if bytes_eq name (codes "ecall") then bare_code instr.Ecall parts else pseudo_code name parts)))))

-- what the operation gives, if there is one, and else the other
abbrev pub chosen : {A B : Type 0} → Option A → (A → B) → B → B
chosen None f other = other
chosen (Some a) f other = f a

-- the instruction of a name with its operands
unfoldable pub code_of : List ℕ → List (List ℕ) → Option Coded
code_of name parts =
    chosen (branch_named name) (λ o. branch_code o parts)
    (chosen (load_named name) (λ o. load_code o parts)
    (chosen (store_named name) (λ o. store_code o parts)
    (chosen (immediate_named name) (λ o. immediate_code o parts)
    (chosen (shift_named name) (λ o. shift_code o parts)
    (chosen (base_named name) (λ o. register_code o parts)
    (chosen (multiply_named name) (λ o. register_code o parts) (other_code name parts)))))))

-- A word below 2^32 is the only one of its instruction.
use Rattle.std.proofs.Common.{◌≡◌, ◌==◌, ℕ, suc, ◌+◌, ◌-◌, ◌*◌, ◌^◌, ◌<◌, Some, ℤ, pos, negsuc, refl, arith, sym, ap, ◌∙◌, List, [], ◌∷◌, inl, inr}
use Rattle.std.specs.List.{list_all}
use Rattle.std.proofs.lemmas.Bool.{eqb-true, cases_lt}
use Rattle.std.proofs.lemmas.Int.{ints}
use Rattle.pl_base.specs.declared.widths.LoadWidth.{LoadWidth}
use Rattle.pl_base.specs.declared.widths.LoadWidth.TheVariants as loads
use Rattle.pl_base.specs.declared.widths.StoreWidth.{StoreWidth}
use Rattle.pl_base.specs.declared.widths.StoreWidth.TheVariants as stores
use Rattle.rv_isa.specs.declared.instruction.BranchOp.{BranchOp}
use Rattle.rv_isa.specs.declared.instruction.BranchOp.TheVariants.{Beq, Bne, Blt, Bge, Bltu, Bgeu}
use Rattle.rv_isa.specs.declared.instruction.ImmOp.{ImmOp}
use Rattle.rv_isa.specs.declared.instruction.ImmOp.TheVariants.{Addi, Slti, Sltiu, Xori, Ori, Andi, Slli, Srli, Srai}
use Rattle.rv_isa.specs.declared.instruction.RegOp.{RegOp}
use Rattle.rv_isa.specs.declared.instruction.RegOp.TheVariants.{Add, Sub, Sll, Slt, Sltu, Xor, Srl, Sra, Or, And, Mul, Mulh, Mulhsu, Mulhu, Div, Divu, Rem, Remu}
use Rattle.rv_isa.specs.declared.instruction.Instr.{Instr}
use Rattle.rv_isa.specs.declared.instruction.Instr.TheVariants.{Lui, Auipc, Jal, Jalr, Branch, Load, Store, OpImm, Op, Fence}
use Rattle.rv_isa.specs.Fields.{bits, rd_of, rs1_of, rs2_of, signed, immediate, I, S, B, J}
use Rattle.rv_isa.specs.Table.{Operation, Fixed, row, IsIn, instruction_of, with_fields, lui, auipc, jal, jalr, branch, load, store, op_imm, op, fence, ecall}
use Rattle.rv_isa.specs.Listing.{operation}
use Rattle.rv_isa.proofs.FieldRanges.{signed_low, signed_high}
use Rattle.rv_isa.proofs.Rows.{Has, both}
use Rattle.rv_isa.proofs.Reading.{found}

-- both words have the same value in each of the fields
abbrev Agree : ℕ → ℕ → List Fixed → Type 0
Agree w v [] = Unit {0}
Agree w v (f ∷ fs) = (bits f.low f.count w ≡ bits f.low f.count v) × Agree w v fs

agree : (fs : List Fixed) (w v : ℕ) → Has w fs → Has v fs → Agree w v fs
agree [] w v h k = tt
agree (f ∷ fs) w v h k =
    let one = both (bits f.low f.count w == f.value) (list_all (λ f. bits f.low f.count w == f.value) fs) h in
    let other = both (bits f.low f.count v == f.value) (list_all (λ f. bits f.low f.count v == f.value) fs) k in
    (eqb-true (bits f.low f.count w) f.value one.0 ∙ sym (eqb-true (bits f.low f.count v) f.value other.0), agree fs w v one.1 other.1)

signed_injective : (sign m n : ℕ) → m < 2 * sign → n < 2 * sign → signed sign m ≡ signed sign n → m ≡ n
signed_injective sign m n h k e =
    elim (cases_lt m sign) [
      | inl low ↦ elim (cases_lt n sign) [
        | inl low' ↦ let f : pos m ≡ pos n = sym (signed_low sign m low) ∙ (e ∙ signed_low sign n low') in omega (arith, ints)
        | inr high' ↦ let f : pos m ≡ negsuc (2 * sign - suc n) = sym (signed_low sign m low) ∙ (e ∙ signed_high sign n high' k) in absurd (cc)
      ]
      | inr high ↦ elim (cases_lt n sign) [
        | inl low' ↦ let f : negsuc (2 * sign - suc m) ≡ pos n = sym (signed_high sign m high h) ∙ (e ∙ signed_low sign n low') in absurd (cc)
        | inr high' ↦ let f : negsuc (2 * sign - suc m) ≡ negsuc (2 * sign - suc n) = sym (signed_high sign m high h) ∙ (e ∙ signed_high sign n high' k) in omega (arith, ints)
      ]
    ]

-- a word is the sum of its six fields
six : (w : ℕ) → w < 2 ^ 32 → w ≡ bits 0 7 w + rd_of w * 2 ^ 7 + bits 12 3 w * 2 ^ 12 + rs1_of w * 2 ^ 15 + rs2_of w * 2 ^ 20 + bits 25 7 w * 2 ^ 25
six w h = omega arith

same_six : (w v : ℕ) → w < 2 ^ 32 → v < 2 ^ 32 → bits 0 7 w ≡ bits 0 7 v → rd_of w ≡ rd_of v → bits 12 3 w ≡ bits 12 3 v → rs1_of w ≡ rs1_of v → rs2_of w ≡ rs2_of v → bits 25 7 w ≡ bits 25 7 v → w ≡ v
same_six w v p q a b c d e f = six w p ∙ (rw (a, b, c, d, e, f) (sym (six v q)))

-- so are the two parts of rd and of funct7, of rs2 with funct7, and of all above rd
rd_parts : (w : ℕ) → rd_of w ≡ bits 8 4 w * 2 + bits 7 1 w
rd_parts w = omega arith

funct7_parts : (w : ℕ) → bits 25 7 w ≡ bits 31 1 w * 2 ^ 6 + bits 25 6 w
funct7_parts w = omega arith

immediate_parts : (w : ℕ) → bits 20 12 w ≡ bits 25 7 w * 2 ^ 5 + rs2_of w
immediate_parts w = omega arith

upper_parts : (w : ℕ) → bits 12 20 w ≡ bits 25 7 w * 2 ^ 13 + rs2_of w * 2 ^ 8 + rs1_of w * 2 ^ 3 + bits 12 3 w
upper_parts w = omega arith

jump_parts : (w : ℕ) → bits 12 20 w ≡ bits 31 1 w * 2 ^ 19 + bits 21 10 w * 2 ^ 9 + bits 20 1 w * 2 ^ 8 + bits 12 8 w
jump_parts w = omega arith

same_i : (w v : ℕ) → immediate I w ≡ immediate I v → (rs2_of w ≡ rs2_of v) × (bits 25 7 w ≡ bits 25 7 v)
same_i w v e =
    let f = signed_injective (2 ^ 11) (bits 20 12 w) (bits 20 12 v) (omega arith) (omega arith) e in
    let g : bits 25 7 w * 2 ^ 5 + rs2_of w ≡ bits 25 7 v * 2 ^ 5 + rs2_of v = sym (immediate_parts w) ∙ (f ∙ immediate_parts v) in
    (omega arith, omega arith)

same_s : (w v : ℕ) → immediate S w ≡ immediate S v → (rd_of w ≡ rd_of v) × (bits 25 7 w ≡ bits 25 7 v)
same_s w v e =
    let f = signed_injective (2 ^ 11) (bits 25 7 w * 2 ^ 5 + bits 7 5 w) (bits 25 7 v * 2 ^ 5 + bits 7 5 v) (omega arith) (omega arith) e in
    (omega arith, omega arith)

-- the digits of a number in mixed bases
four : (a b c d a' b' c' d' : ℕ) → a < 2 → b < 2 → c < 64 → d < 16 → a' < 2 → b' < 2 → c' < 64 → d' < 16 → a * 2 ^ 12 + b * 2 ^ 11 + c * 2 ^ 5 + d * 2 ≡ a' * 2 ^ 12 + b' * 2 ^ 11 + c' * 2 ^ 5 + d' * 2 → (a ≡ a') × (b ≡ b') × (c ≡ c') × (d ≡ d')
four a b c d a' b' c' d' h1 h2 h3 h4 h5 h6 h7 h8 e = (omega arith, omega arith, omega arith, omega arith)

four_far : (a b c d a' b' c' d' : ℕ) → a < 2 → b < 256 → c < 2 → d < 1024 → a' < 2 → b' < 256 → c' < 2 → d' < 1024 → a * 2 ^ 20 + b * 2 ^ 12 + c * 2 ^ 11 + d * 2 ≡ a' * 2 ^ 20 + b' * 2 ^ 12 + c' * 2 ^ 11 + d' * 2 → (a ≡ a') × (b ≡ b') × (c ≡ c') × (d ≡ d')
four_far a b c d a' b' c' d' h1 h2 h3 h4 h5 h6 h7 h8 e = (omega arith, omega arith, omega arith, omega arith)

same_b : (w v : ℕ) → immediate B w ≡ immediate B v → (rd_of w ≡ rd_of v) × (bits 25 7 w ≡ bits 25 7 v)
same_b w v e =
    let f = signed_injective (2 ^ 12) (bits 31 1 w * 2 ^ 12 + bits 7 1 w * 2 ^ 11 + bits 25 6 w * 2 ^ 5 + bits 8 4 w * 2) (bits 31 1 v * 2 ^ 12 + bits 7 1 v * 2 ^ 11 + bits 25 6 v * 2 ^ 5 + bits 8 4 v * 2) (omega arith) (omega arith) e in
    let g = four (bits 31 1 w) (bits 7 1 w) (bits 25 6 w) (bits 8 4 w) (bits 31 1 v) (bits 7 1 v) (bits 25 6 v) (bits 8 4 v) (omega arith) (omega arith) (omega arith) (omega arith) (omega arith) (omega arith) (omega arith) (omega arith) f in
    (rd_parts w ∙ rw (g.3, g.1) (sym (rd_parts v)), funct7_parts w ∙ rw (g.0, g.2) (sym (funct7_parts v)))

same_j : (w v : ℕ) → immediate J w ≡ immediate J v → bits 12 20 w ≡ bits 12 20 v
same_j w v e =
    let f = signed_injective (2 ^ 20) (bits 31 1 w * 2 ^ 20 + bits 12 8 w * 2 ^ 12 + bits 20 1 w * 2 ^ 11 + bits 21 10 w * 2) (bits 31 1 v * 2 ^ 20 + bits 12 8 v * 2 ^ 12 + bits 20 1 v * 2 ^ 11 + bits 21 10 v * 2) (omega arith) (omega arith) e in
    let g = four_far (bits 31 1 w) (bits 12 8 w) (bits 20 1 w) (bits 21 10 w) (bits 31 1 v) (bits 12 8 v) (bits 20 1 v) (bits 21 10 v) (omega arith) (omega arith) (omega arith) (omega arith) (omega arith) (omega arith) (omega arith) (omega arith) f in
    jump_parts w ∙ rw (g.0, g.3, g.2, g.1) (sym (jump_parts v))

same_upper : (w v : ℕ) → w < 2 ^ 32 → v < 2 ^ 32 → bits 0 7 w ≡ bits 0 7 v → rd_of w ≡ rd_of v → bits 12 20 w ≡ bits 12 20 v → w ≡ v
same_upper w v p q a b c = omega arith

-- the fields of equal instructions
lui_parts : (a i a' i' : ℕ) → Lui a i ≡ Lui a' i' → (a ≡ a') × (i ≡ i')
lui_parts a i a' i' e = (cc, cc)

auipc_parts : (a i a' i' : ℕ) → Auipc a i ≡ Auipc a' i' → (a ≡ a') × (i ≡ i')
auipc_parts a i a' i' e = (cc, cc)

jal_parts : (a a' : ℕ) (z z' : ℤ) → Jal a z ≡ Jal a' z' → (a ≡ a') × (z ≡ z')
jal_parts a a' z z' e = (cc, cc)

jalr_parts : (a b a' b' : ℕ) (z z' : ℤ) → Jalr a b z ≡ Jalr a' b' z' → (a ≡ a') × (b ≡ b') × (z ≡ z')
jalr_parts a b a' b' z z' e = (cc, cc, cc)

branch_parts : (o : BranchOp) (a b a' b' : ℕ) (z z' : ℤ) → Branch o a b z ≡ Branch o a' b' z' → (a ≡ a') × (b ≡ b') × (z ≡ z')
branch_parts o a b a' b' z z' e = (cc, cc, cc)

load_parts : (o : LoadWidth) (a b a' b' : ℕ) (z z' : ℤ) → Load o a b z ≡ Load o a' b' z' → (a ≡ a') × (b ≡ b') × (z ≡ z')
load_parts o a b a' b' z z' e = (cc, cc, cc)

store_parts : (o : StoreWidth) (a b a' b' : ℕ) (z z' : ℤ) → Store o a b z ≡ Store o a' b' z' → (a ≡ a') × (b ≡ b') × (z ≡ z')
store_parts o a b a' b' z z' e = (cc, cc, cc)

op_imm_parts : (o : ImmOp) (a b a' b' : ℕ) (z z' : ℤ) → OpImm o a b z ≡ OpImm o a' b' z' → (a ≡ a') × (b ≡ b') × (z ≡ z')
op_imm_parts o a b a' b' z z' e = (cc, cc, cc)

op_parts : (o : RegOp) (a b d a' b' d' : ℕ) → Op o a b d ≡ Op o a' b' d' → (a ≡ a') × (b ≡ b') × (d ≡ d')
op_parts o a b d a' b' d' e = (cc, cc, cc)

fence_parts : (a a' : ℕ) → Fence a ≡ Fence a' → a ≡ a'
fence_parts a a' e = cc

-- two words in one row with the same fields are one, form by form
abbrev Same : ℕ → ℕ → Operation → Type 0
Same w v o = with_fields o w ≡ with_fields o v → w ≡ v

same_branch : (o : BranchOp) (w v : ℕ) → w < 2 ^ 32 → v < 2 ^ 32 → (bits 0 7 w ≡ bits 0 7 v) × ((bits 12 3 w ≡ bits 12 3 v) × Unit {0}) → Same w v (branch o)
same_branch o w v p q fixed e =
    let parts = branch_parts o (rs1_of w) (rs2_of w) (rs1_of v) (rs2_of v) (immediate B w) (immediate B v) e in
    let rest = same_b w v parts.2 in
    same_six w v p q fixed.0 rest.0 fixed.1.0 parts.0 parts.1 rest.1

same_load : (o : LoadWidth) (w v : ℕ) → w < 2 ^ 32 → v < 2 ^ 32 → (bits 0 7 w ≡ bits 0 7 v) × ((bits 12 3 w ≡ bits 12 3 v) × Unit {0}) → Same w v (load o)
same_load o w v p q fixed e =
    let parts = load_parts o (rd_of w) (rs1_of w) (rd_of v) (rs1_of v) (immediate I w) (immediate I v) e in
    let rest = same_i w v parts.2 in
    same_six w v p q fixed.0 parts.0 fixed.1.0 parts.1 rest.0 rest.1

same_store : (o : StoreWidth) (w v : ℕ) → w < 2 ^ 32 → v < 2 ^ 32 → (bits 0 7 w ≡ bits 0 7 v) × ((bits 12 3 w ≡ bits 12 3 v) × Unit {0}) → Same w v (store o)
same_store o w v p q fixed e =
    let parts = store_parts o (rs2_of w) (rs1_of w) (rs2_of v) (rs1_of v) (immediate S w) (immediate S v) e in
    let rest = same_s w v parts.2 in
    same_six w v p q fixed.0 rest.0 fixed.1.0 parts.1 parts.0 rest.1

same_op_imm : (o : ImmOp) (w v : ℕ) → w < 2 ^ 32 → v < 2 ^ 32 → (bits 0 7 w ≡ bits 0 7 v) × ((bits 12 3 w ≡ bits 12 3 v) × Unit {0}) → OpImm o (rd_of w) (rs1_of w) (immediate I w) ≡ OpImm o (rd_of v) (rs1_of v) (immediate I v) → w ≡ v
same_op_imm o w v p q fixed e =
    let parts = op_imm_parts o (rd_of w) (rs1_of w) (rd_of v) (rs1_of v) (immediate I w) (immediate I v) e in
    let rest = same_i w v parts.2 in
    same_six w v p q fixed.0 parts.0 fixed.1.0 parts.1 rest.0 rest.1

same_shift : (o : ImmOp) (w v : ℕ) → w < 2 ^ 32 → v < 2 ^ 32 → (bits 0 7 w ≡ bits 0 7 v) × ((bits 12 3 w ≡ bits 12 3 v) × ((bits 25 7 w ≡ bits 25 7 v) × Unit {0})) → OpImm o (rd_of w) (rs1_of w) (pos (rs2_of w)) ≡ OpImm o (rd_of v) (rs1_of v) (pos (rs2_of v)) → w ≡ v
same_shift o w v p q fixed e =
    let parts = op_imm_parts o (rd_of w) (rs1_of w) (rd_of v) (rs1_of v) (pos (rs2_of w)) (pos (rs2_of v)) e in
    same_six w v p q fixed.0 parts.0 fixed.1.0 parts.1 (pos_injective (rs2_of w) (rs2_of v) parts.2) fixed.1.1.0
  where
    pos_injective : (m n : ℕ) → pos m ≡ pos n → m ≡ n
    pos_injective m n f = cc

same_op : (o : RegOp) (w v : ℕ) → w < 2 ^ 32 → v < 2 ^ 32 → (bits 0 7 w ≡ bits 0 7 v) × ((bits 12 3 w ≡ bits 12 3 v) × ((bits 25 7 w ≡ bits 25 7 v) × Unit {0})) → Same w v (op o)
same_op o w v p q fixed e =
    let parts = op_parts o (rd_of w) (rs1_of w) (rs2_of w) (rd_of v) (rs1_of v) (rs2_of v) e in
    same_six w v p q fixed.0 parts.0 fixed.1.0 parts.1 parts.2 fixed.1.1.0

same_fence : (w v : ℕ) → w < 2 ^ 32 → v < 2 ^ 32 → (bits 0 7 w ≡ bits 0 7 v) × ((bits 12 3 w ≡ bits 12 3 v) × Unit {0}) → Same w v fence
same_fence w v p q fixed e =
    let free = fence_parts (bits 15 17 w * 2 ^ 15 + bits 7 5 w * 2 ^ 7) (bits 15 17 v * 2 ^ 15 + bits 7 5 v * 2 ^ 7) e in
    let first = fixed.0 in
    let second = fixed.1.0 in
    omega arith

same_word : (o : Operation) (w v : ℕ) → w < 2 ^ 32 → v < 2 ^ 32 → IsIn w o → IsIn v o → Same w v o
same_word lui w v p q h k e =
    let parts = lui_parts (rd_of w) (bits 12 20 w) (rd_of v) (bits 12 20 v) e in
    same_upper w v p q (agree (row lui).fixed w v h k).0 parts.0 parts.1
same_word auipc w v p q h k e =
    let parts = auipc_parts (rd_of w) (bits 12 20 w) (rd_of v) (bits 12 20 v) e in
    same_upper w v p q (agree (row auipc).fixed w v h k).0 parts.0 parts.1
same_word jal w v p q h k e =
    let parts = jal_parts (rd_of w) (rd_of v) (immediate J w) (immediate J v) e in
    same_upper w v p q (agree (row jal).fixed w v h k).0 parts.0 (same_j w v parts.1)
same_word jalr w v p q h k e =
    let fixed = agree (row jalr).fixed w v h k in
    let parts = jalr_parts (rd_of w) (rs1_of w) (rd_of v) (rs1_of v) (immediate I w) (immediate I v) e in
    let rest = same_i w v parts.2 in
    same_six w v p q fixed.0 parts.0 fixed.1.0 parts.1 rest.0 rest.1
same_word (branch Beq) w v p q h k e = same_branch Beq w v p q (agree (row (branch Beq)).fixed w v h k) e
same_word (branch Bne) w v p q h k e = same_branch Bne w v p q (agree (row (branch Bne)).fixed w v h k) e
same_word (branch Blt) w v p q h k e = same_branch Blt w v p q (agree (row (branch Blt)).fixed w v h k) e
same_word (branch Bge) w v p q h k e = same_branch Bge w v p q (agree (row (branch Bge)).fixed w v h k) e
same_word (branch Bltu) w v p q h k e = same_branch Bltu w v p q (agree (row (branch Bltu)).fixed w v h k) e
same_word (branch Bgeu) w v p q h k e = same_branch Bgeu w v p q (agree (row (branch Bgeu)).fixed w v h k) e
same_word (load loads.B) w v p q h k e = same_load loads.B w v p q (agree (row (load loads.B)).fixed w v h k) e
same_word (load loads.H) w v p q h k e = same_load loads.H w v p q (agree (row (load loads.H)).fixed w v h k) e
same_word (load loads.W) w v p q h k e = same_load loads.W w v p q (agree (row (load loads.W)).fixed w v h k) e
same_word (load loads.Bu) w v p q h k e = same_load loads.Bu w v p q (agree (row (load loads.Bu)).fixed w v h k) e
same_word (load loads.Hu) w v p q h k e = same_load loads.Hu w v p q (agree (row (load loads.Hu)).fixed w v h k) e
same_word (store stores.B) w v p q h k e = same_store stores.B w v p q (agree (row (store stores.B)).fixed w v h k) e
same_word (store stores.H) w v p q h k e = same_store stores.H w v p q (agree (row (store stores.H)).fixed w v h k) e
same_word (store stores.W) w v p q h k e = same_store stores.W w v p q (agree (row (store stores.W)).fixed w v h k) e
same_word (op_imm Addi) w v p q h k e = same_op_imm Addi w v p q (agree (row (op_imm Addi)).fixed w v h k) e
same_word (op_imm Slti) w v p q h k e = same_op_imm Slti w v p q (agree (row (op_imm Slti)).fixed w v h k) e
same_word (op_imm Sltiu) w v p q h k e = same_op_imm Sltiu w v p q (agree (row (op_imm Sltiu)).fixed w v h k) e
same_word (op_imm Xori) w v p q h k e = same_op_imm Xori w v p q (agree (row (op_imm Xori)).fixed w v h k) e
same_word (op_imm Ori) w v p q h k e = same_op_imm Ori w v p q (agree (row (op_imm Ori)).fixed w v h k) e
same_word (op_imm Andi) w v p q h k e = same_op_imm Andi w v p q (agree (row (op_imm Andi)).fixed w v h k) e
same_word (op_imm Slli) w v p q h k e = same_shift Slli w v p q (agree (row (op_imm Slli)).fixed w v h k) e
same_word (op_imm Srli) w v p q h k e = same_shift Srli w v p q (agree (row (op_imm Srli)).fixed w v h k) e
same_word (op_imm Srai) w v p q h k e = same_shift Srai w v p q (agree (row (op_imm Srai)).fixed w v h k) e
same_word (op Add) w v p q h k e = same_op Add w v p q (agree (row (op Add)).fixed w v h k) e
same_word (op Sll) w v p q h k e = same_op Sll w v p q (agree (row (op Sll)).fixed w v h k) e
same_word (op Slt) w v p q h k e = same_op Slt w v p q (agree (row (op Slt)).fixed w v h k) e
same_word (op Sltu) w v p q h k e = same_op Sltu w v p q (agree (row (op Sltu)).fixed w v h k) e
same_word (op Xor) w v p q h k e = same_op Xor w v p q (agree (row (op Xor)).fixed w v h k) e
same_word (op Srl) w v p q h k e = same_op Srl w v p q (agree (row (op Srl)).fixed w v h k) e
same_word (op Or) w v p q h k e = same_op Or w v p q (agree (row (op Or)).fixed w v h k) e
same_word (op And) w v p q h k e = same_op And w v p q (agree (row (op And)).fixed w v h k) e
same_word (op Sub) w v p q h k e = same_op Sub w v p q (agree (row (op Sub)).fixed w v h k) e
same_word (op Sra) w v p q h k e = same_op Sra w v p q (agree (row (op Sra)).fixed w v h k) e
same_word (op Mul) w v p q h k e = same_op Mul w v p q (agree (row (op Mul)).fixed w v h k) e
same_word (op Mulh) w v p q h k e = same_op Mulh w v p q (agree (row (op Mulh)).fixed w v h k) e
same_word (op Mulhsu) w v p q h k e = same_op Mulhsu w v p q (agree (row (op Mulhsu)).fixed w v h k) e
same_word (op Mulhu) w v p q h k e = same_op Mulhu w v p q (agree (row (op Mulhu)).fixed w v h k) e
same_word (op Div) w v p q h k e = same_op Div w v p q (agree (row (op Div)).fixed w v h k) e
same_word (op Divu) w v p q h k e = same_op Divu w v p q (agree (row (op Divu)).fixed w v h k) e
same_word (op Rem) w v p q h k e = same_op Rem w v p q (agree (row (op Rem)).fixed w v h k) e
same_word (op Remu) w v p q h k e = same_op Remu w v p q (agree (row (op Remu)).fixed w v h k) e
same_word fence w v p q h k e = same_fence w v p q (agree (row fence).fixed w v h k) e
same_word ecall w v p q h k e =
    let fixed = agree (row ecall).fixed w v h k in
    let first = fixed.0 in
    let second = fixed.1.0 in
    omega arith

operation_again : (o : Operation) (w : ℕ) → operation (with_fields o w) ≡ o
operation_again lui w = refl
operation_again auipc w = refl
operation_again jal w = refl
operation_again jalr w = refl
operation_again (branch o) w = refl
operation_again (load o) w = refl
operation_again (store o) w = refl
operation_again (op_imm o) w = refl
operation_again (op o) w = refl
operation_again fence w = refl
operation_again ecall w = refl

same_row : (o o' : Operation) (w v : ℕ) → o ≡ o' → w < 2 ^ 32 → v < 2 ^ 32 → IsIn w o → IsIn v o' → with_fields o w ≡ with_fields o' v → w ≡ v
same_row o o' w v s p q h k e = same_word o w v p q h (rw s k) (e ∙ ap (λ o. with_fields o v) (sym s))

-- no two words are one instruction
pub only_word : (w v : ℕ) (i : Instr) → w < 2 ^ 32 → v < 2 ^ 32 → instruction_of w ≡ Some i → instruction_of v ≡ Some i → w ≡ v
only_word w v i p q e f =
    let one = found w i e in
    let other = found v i f in
    let o : one.o ≡ other.o = sym (operation_again one.o w) ∙ (ap operation (one.is ∙ sym other.is) ∙ operation_again other.o v) in
    same_row one.o other.o w v o p q one.is_in other.is_in (one.is ∙ sym other.is)

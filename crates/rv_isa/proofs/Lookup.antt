-- Which row the fixed fields of a word select.
use Rattle.std.proofs.Common.{◌≡◌, ◌≢◌, ◌==◌, ℕ, ◌+◌, ◌*◌, ◌%◌, ◌^◌, Option, Some, None, cond, refl, arith, sym, ap, ◌∙◌, ℤ}
use Rattle.std.specs.List.{find, list_all}
use Rattle.std.specs.Option.{option_map}
use Rattle.std.proofs.Math.Bool.{and-false}
use Rattle.std.proofs.lemmas.Bool.{ne_eqb}
use Rattle.pl_base.specs.declared.widths.LoadWidth.{LoadWidth}
use Rattle.pl_base.specs.declared.widths.StoreWidth.{StoreWidth}
use Rattle.rv_isa.specs.declared.instruction.BranchOp.{BranchOp}
use Rattle.rv_isa.specs.declared.instruction.ImmOp.{ImmOp}
use Rattle.rv_isa.specs.declared.instruction.RegOp.{RegOp}
use Rattle.rv_isa.specs.declared.instruction.Instr.TheVariants.{Lui, Auipc, Jal, Jalr, Branch, Load, Store, OpImm, Op, Fence}
use Rattle.rv_isa.specs.Fields.{bits, rd_of, rs1_of, rs2_of, immediate, I, S, B, J}
use Rattle.rv_isa.specs.Table.{Operation, row, operations, operation_of, instruction_of, with_fields, lui, auipc, jal, jalr, branch, load, store, op_imm, op, fence}

-- one of four fields, by where it begins
abbrev pub pick : ℕ → ℕ → ℕ → ℕ → ℕ → ℕ
pick low a b c d = cond (low == 0) a (cond (low == 12) b (cond (low == 25) c d))

-- the first row with these fields: the opcode, funct3, funct7 and all above the opcode
abbrev pub chosen : ℕ → ℕ → ℕ → ℕ → Option Operation
chosen a b c d = find (λ o. list_all (λ f. pick f.low a b c d == f.value) (row o).fixed) operations

pub chosen_is : (w : ℕ) → operation_of w ≡ chosen (bits 0 7 w) (bits 12 3 w) (bits 25 7 w) (bits 7 25 w)
unfolding operation_of
chosen_is w = refl

pub at_opcode : (w k : ℕ) → w % 128 ≡ k → operation_of w ≡ chosen k (bits 12 3 w) (bits 25 7 w) (bits 7 25 w)
at_opcode w k e =
    let f : bits 0 7 w ≡ k = omega arith in
    chosen_is w ∙ ap (λ n. chosen n (bits 12 3 w) (bits 25 7 w) (bits 7 25 w)) f

pub at_funct3 : (w k j : ℕ) → w % 128 ≡ k → bits 12 3 w ≡ j → operation_of w ≡ chosen k j (bits 25 7 w) (bits 7 25 w)
at_funct3 w k j e f = at_opcode w k e ∙ ap (λ n. chosen k n (bits 25 7 w) (bits 7 25 w)) f

pub at_funct7 : (w k j h : ℕ) → w % 128 ≡ k → bits 12 3 w ≡ j → bits 25 7 w ≡ h → operation_of w ≡ chosen k j h (bits 7 25 w)
at_funct7 w k j h e f g = at_funct3 w k j e f ∙ ap (λ n. chosen k j n (bits 7 25 w)) g

pub at_opcode_funct7 : (w k h : ℕ) → w % 128 ≡ k → bits 25 7 w ≡ h → operation_of w ≡ chosen k (bits 12 3 w) h (bits 7 25 w)
at_opcode_funct7 w k h e f = at_opcode w k e ∙ ap (λ n. chosen k (bits 12 3 w) n (bits 7 25 w)) f

pub at_upper : (w k h : ℕ) → w % 128 ≡ k → bits 7 25 w ≡ h → operation_of w ≡ chosen k (bits 12 3 w) (bits 25 7 w) h
at_upper w k h e f = at_opcode w k e ∙ ap (λ n. chosen k (bits 12 3 w) (bits 25 7 w) n) f

-- the instruction of the row that is found
pub made : (w : ℕ) (o : Operation) → operation_of w ≡ Some o → instruction_of w ≡ Some (with_fields o w)
unfolding instruction_of
made w o e = ap (λ (found : Option Operation). option_map (λ o. with_fields o w) found) e

pub none : (w : ℕ) → operation_of w ≡ None → instruction_of w ≡ None
unfolding instruction_of
none w e = ap (λ (found : Option Operation). option_map (λ o. with_fields o w) found) e

-- an instruction whose fields are those of the word, in the row of the word
pub made_lui : (w : ℕ) (a imm : ℕ) → operation_of w ≡ Some lui → a ≡ rd_of w → imm ≡ bits 12 20 w → Some (Lui a imm) ≡ instruction_of w
made_lui w a imm e p q = rw (p, q) (sym (made w lui e))

pub made_auipc : (w : ℕ) (a imm : ℕ) → operation_of w ≡ Some auipc → a ≡ rd_of w → imm ≡ bits 12 20 w → Some (Auipc a imm) ≡ instruction_of w
made_auipc w a imm e p q = rw (p, q) (sym (made w auipc e))

pub made_jal : (w : ℕ) (a : ℕ) (z : ℤ) → operation_of w ≡ Some jal → a ≡ rd_of w → z ≡ immediate J w → Some (Jal a z) ≡ instruction_of w
made_jal w a z e p q = rw (p, q) (sym (made w jal e))

pub made_jalr : (w : ℕ) (a b : ℕ) (z : ℤ) → operation_of w ≡ Some jalr → a ≡ rd_of w → b ≡ rs1_of w → z ≡ immediate I w → Some (Jalr a b z) ≡ instruction_of w
made_jalr w a b z e p q r = rw (p, q, r) (sym (made w jalr e))

pub made_branch : (w : ℕ) (o : BranchOp) (a b : ℕ) (z : ℤ) → operation_of w ≡ Some (branch o) → a ≡ rs1_of w → b ≡ rs2_of w → z ≡ immediate B w → Some (Branch o a b z) ≡ instruction_of w
made_branch w o a b z e p q r = rw (p, q, r) (sym (made w (branch o) e))

pub made_load : (w : ℕ) (o : LoadWidth) (a b : ℕ) (z : ℤ) → operation_of w ≡ Some (load o) → a ≡ rd_of w → b ≡ rs1_of w → z ≡ immediate I w → Some (Load o a b z) ≡ instruction_of w
made_load w o a b z e p q r = rw (p, q, r) (sym (made w (load o) e))

pub made_store : (w : ℕ) (o : StoreWidth) (a b : ℕ) (z : ℤ) → operation_of w ≡ Some (store o) → a ≡ rs2_of w → b ≡ rs1_of w → z ≡ immediate S w → Some (Store o a b z) ≡ instruction_of w
made_store w o a b z e p q r = rw (p, q, r) (sym (made w (store o) e))

pub made_op_imm : (w : ℕ) (o : ImmOp) (a b : ℕ) (z : ℤ) → operation_of w ≡ Some (op_imm o) → a ≡ rd_of w → b ≡ rs1_of w → z ≡ immediate (row (op_imm o)).form w → Some (OpImm o a b z) ≡ instruction_of w
made_op_imm w o a b z e p q r = rw (p, q, r) (sym (made w (op_imm o) e))

pub made_op : (w : ℕ) (o : RegOp) (a b d : ℕ) → operation_of w ≡ Some (op o) → a ≡ rd_of w → b ≡ rs1_of w → d ≡ rs2_of w → Some (Op o a b d) ≡ instruction_of w
made_op w o a b d e p q r = rw (p, q, r) (sym (made w (op o) e))

pub made_fence : (w : ℕ) (a : ℕ) → operation_of w ≡ Some fence → a ≡ bits 15 17 w * 2 ^ 15 + bits 7 5 w * 2 ^ 7 → Some (Fence a) ≡ instruction_of w
made_fence w a e p = rw (p) (sym (made w fence e))

-- a word of no row, by its opcode
pub no_opcode : (w : ℕ) (k : ℕ) → w % 128 ≡ k → k ≢ 55 → k ≢ 23 → k ≢ 111 → k ≢ 103 → k ≢ 99 → k ≢ 3 → k ≢ 35 → k ≢ 19 → k ≢ 51 → k ≢ 15 → k ≢ 115 → operation_of w ≡ None
no_opcode w k e n1 n2 n3 n4 n5 n6 n7 n8 n9 n10 n11 =
    at_opcode w k e
    ∙ simp (ne_eqb k 55 n1, ne_eqb k 23 n2, ne_eqb k 111 n3, ne_eqb k 103 n4, ne_eqb k 99 n5, ne_eqb k 3 n6, ne_eqb k 35 n7, ne_eqb k 19 n8, ne_eqb k 51 n9, ne_eqb k 15 n10, ne_eqb k 115 n11) refl

pub no_jalr : (w b : ℕ) → w % 128 ≡ 103 → bits 12 3 w ≡ b → b ≢ 0 → operation_of w ≡ None
no_jalr w b e f n0 = at_funct3 w 103 b e f ∙ simp (ne_eqb b 0 n0) refl

pub no_branch : (w b : ℕ) → w % 128 ≡ 99 → bits 12 3 w ≡ b → b ≢ 0 → b ≢ 1 → b ≢ 4 → b ≢ 5 → b ≢ 6 → b ≢ 7 → operation_of w ≡ None
no_branch w b e f n0 n1 n4 n5 n6 n7 = at_funct3 w 99 b e f ∙ simp (ne_eqb b 0 n0, ne_eqb b 1 n1, ne_eqb b 4 n4, ne_eqb b 5 n5, ne_eqb b 6 n6, ne_eqb b 7 n7) refl

pub no_load : (w b : ℕ) → w % 128 ≡ 3 → bits 12 3 w ≡ b → b ≢ 0 → b ≢ 1 → b ≢ 2 → b ≢ 4 → b ≢ 5 → operation_of w ≡ None
no_load w b e f n0 n1 n2 n4 n5 = at_funct3 w 3 b e f ∙ simp (ne_eqb b 0 n0, ne_eqb b 1 n1, ne_eqb b 2 n2, ne_eqb b 4 n4, ne_eqb b 5 n5) refl

pub no_store : (w b : ℕ) → w % 128 ≡ 35 → bits 12 3 w ≡ b → b ≢ 0 → b ≢ 1 → b ≢ 2 → operation_of w ≡ None
no_store w b e f n0 n1 n2 = at_funct3 w 35 b e f ∙ simp (ne_eqb b 0 n0, ne_eqb b 1 n1, ne_eqb b 2 n2) refl

pub no_fence : (w b : ℕ) → w % 128 ≡ 15 → bits 12 3 w ≡ b → b ≢ 0 → operation_of w ≡ None
no_fence w b e f n0 = at_funct3 w 15 b e f ∙ simp (ne_eqb b 0 n0) refl

pub no_shift_left : (w h : ℕ) → w % 128 ≡ 19 → bits 12 3 w ≡ 1 → bits 25 7 w ≡ h → h ≢ 0 → operation_of w ≡ None
no_shift_left w h e f g n0 = at_funct7 w 19 1 h e f g ∙ simp (ne_eqb h 0 n0) refl

pub no_shift_right : (w h : ℕ) → w % 128 ≡ 19 → bits 12 3 w ≡ 5 → bits 25 7 w ≡ h → h ≢ 0 → h ≢ 32 → operation_of w ≡ None
no_shift_right w h e f g n0 n32 = at_funct7 w 19 5 h e f g ∙ simp (ne_eqb h 0 n0, ne_eqb h 32 n32) refl

pub no_second : (w b : ℕ) → w % 128 ≡ 51 → bits 12 3 w ≡ b → bits 25 7 w ≡ 32 → b ≢ 0 → b ≢ 5 → operation_of w ≡ None
no_second w b e f g n0 n5 = at_funct7 w 51 b 32 e f g ∙ simp (ne_eqb b 0 n0, ne_eqb b 5 n5, and-false) refl

pub no_reg_op : (w h : ℕ) → w % 128 ≡ 51 → bits 25 7 w ≡ h → h ≢ 0 → h ≢ 1 → h ≢ 32 → operation_of w ≡ None
no_reg_op w h e f n0 n1 n32 = at_opcode_funct7 w 51 h e f ∙ simp (ne_eqb h 0 n0, ne_eqb h 1 n1, ne_eqb h 32 n32, and-false) refl

pub no_ecall : (w h : ℕ) → w % 128 ≡ 115 → bits 7 25 w ≡ h → h ≢ 0 → operation_of w ≡ None
no_ecall w h e f n0 = at_upper w 115 h e f ∙ simp (ne_eqb h 0 n0) refl

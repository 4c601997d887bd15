-- Each word is in one row at most, and what it is there is a valid instruction.
use Rattle.std.proofs.Common.{◌≡◌, ◌==◌, ℕ, Some, None, Bool, true, false, IsTrue, cond, refl, arith, ◌∙◌, ◌&&◌, List, [], ◌∷◌}
use Rattle.std.specs.List.{find, list_all}
use Rattle.std.proofs.lemmas.Bool.{eqb-true}
use Rattle.pl_base.specs.declared.widths.LoadWidth.TheVariants as loads
use Rattle.pl_base.specs.declared.widths.StoreWidth.TheVariants as stores
use Rattle.rv_isa.specs.declared.instruction.BranchOp.TheVariants.{Beq, Bne, Blt, Bge, Bltu, Bgeu}
use Rattle.rv_isa.specs.declared.instruction.ImmOp.TheVariants.{Addi, Slti, Sltiu, Xori, Ori, Andi, Slli, Srli, Srai}
use Rattle.rv_isa.specs.declared.instruction.RegOp.TheVariants.{Add, Sub, Sll, Slt, Sltu, Xor, Srl, Sra, Or, And, Mul, Mulh, Mulhsu, Mulhu, Div, Divu, Rem, Remu}
use Rattle.rv_isa.specs.Fields.{bits}
use Rattle.rv_isa.specs.Table.{Operation, Fixed, opcode, funct3, funct7, operations, is_in, IsIn, operation_of, lui, auipc, jal, jalr, branch, load, store, op_imm, op, fence, ecall}
use Rattle.rv_isa.proofs.Lookup.{chosen, at_opcode, at_funct3, at_funct7, at_upper}

pub both : (a b : Bool) → IsTrue (a && b) → IsTrue a × IsTrue b
both true b h = (refl, h)
both false b h = absurd (cc)

-- the word has these fixed fields
abbrev pub Has : ℕ → List Fixed → Type 0
Has w fs = IsTrue (list_all (λ f. bits f.low f.count w == f.value) fs)

-- a row of one, two or three fixed fields that the fields select
one : (w a : ℕ) (o : Operation) → ((b c d : ℕ) → chosen a b c d ≡ Some o) → Has w (opcode a ∷ []) → operation_of w ≡ Some o
one w a o select h =
    let first = eqb-true (bits 0 7 w) a (both (bits 0 7 w == a) true h).0 in
    at_opcode w a (omega arith) ∙ select _ _ _

two : (w a b : ℕ) (o : Operation) → ((c d : ℕ) → chosen a b c d ≡ Some o) → Has w (opcode a ∷ funct3 b ∷ []) → operation_of w ≡ Some o
two w a b o select h =
    let parts = both (bits 0 7 w == a) (bits 12 3 w == b && true) h in
    let first = eqb-true (bits 0 7 w) a parts.0 in
    at_funct3 w a b (omega arith) (eqb-true (bits 12 3 w) b (both (bits 12 3 w == b) true parts.1).0) ∙ select _ _

three : (w a b c : ℕ) (o : Operation) → ((d : ℕ) → chosen a b c d ≡ Some o) → Has w (opcode a ∷ funct3 b ∷ funct7 c ∷ []) → operation_of w ≡ Some o
three w a b c o select h =
    let parts = both (bits 0 7 w == a) (bits 12 3 w == b && (bits 25 7 w == c && true)) h in
    let rest = both (bits 12 3 w == b) (bits 25 7 w == c && true) parts.1 in
    let first = eqb-true (bits 0 7 w) a parts.0 in
    at_funct7 w a b c (omega arith) (eqb-true (bits 12 3 w) b rest.0) (eqb-true (bits 25 7 w) c (both (bits 25 7 w == c) true rest.1).0) ∙ select _

-- a word is read by the row that it is in
pub in_row : (o : Operation) (w : ℕ) → IsIn w o → operation_of w ≡ Some o
in_row lui w h = one w 55 lui (λ b c d. refl) h
in_row auipc w h = one w 23 auipc (λ b c d. refl) h
in_row jal w h = one w 111 jal (λ b c d. refl) h
in_row jalr w h = two w 103 0 jalr (λ c d. refl) h
in_row (branch Beq) w h = two w 99 0 (branch Beq) (λ c d. refl) h
in_row (branch Bne) w h = two w 99 1 (branch Bne) (λ c d. refl) h
in_row (branch Blt) w h = two w 99 4 (branch Blt) (λ c d. refl) h
in_row (branch Bge) w h = two w 99 5 (branch Bge) (λ c d. refl) h
in_row (branch Bltu) w h = two w 99 6 (branch Bltu) (λ c d. refl) h
in_row (branch Bgeu) w h = two w 99 7 (branch Bgeu) (λ c d. refl) h
in_row (load loads.B) w h = two w 3 0 (load loads.B) (λ c d. refl) h
in_row (load loads.H) w h = two w 3 1 (load loads.H) (λ c d. refl) h
in_row (load loads.W) w h = two w 3 2 (load loads.W) (λ c d. refl) h
in_row (load loads.Bu) w h = two w 3 4 (load loads.Bu) (λ c d. refl) h
in_row (load loads.Hu) w h = two w 3 5 (load loads.Hu) (λ c d. refl) h
in_row (store stores.B) w h = two w 35 0 (store stores.B) (λ c d. refl) h
in_row (store stores.H) w h = two w 35 1 (store stores.H) (λ c d. refl) h
in_row (store stores.W) w h = two w 35 2 (store stores.W) (λ c d. refl) h
in_row (op_imm Addi) w h = two w 19 0 (op_imm Addi) (λ c d. refl) h
in_row (op_imm Slti) w h = two w 19 2 (op_imm Slti) (λ c d. refl) h
in_row (op_imm Sltiu) w h = two w 19 3 (op_imm Sltiu) (λ c d. refl) h
in_row (op_imm Xori) w h = two w 19 4 (op_imm Xori) (λ c d. refl) h
in_row (op_imm Ori) w h = two w 19 6 (op_imm Ori) (λ c d. refl) h
in_row (op_imm Andi) w h = two w 19 7 (op_imm Andi) (λ c d. refl) h
in_row (op_imm Slli) w h = three w 19 1 0 (op_imm Slli) (λ d. refl) h
in_row (op_imm Srli) w h = three w 19 5 0 (op_imm Srli) (λ d. refl) h
in_row (op_imm Srai) w h = three w 19 5 32 (op_imm Srai) (λ d. refl) h
in_row (op Add) w h = three w 51 0 0 (op Add) (λ d. refl) h
in_row (op Sll) w h = three w 51 1 0 (op Sll) (λ d. refl) h
in_row (op Slt) w h = three w 51 2 0 (op Slt) (λ d. refl) h
in_row (op Sltu) w h = three w 51 3 0 (op Sltu) (λ d. refl) h
in_row (op Xor) w h = three w 51 4 0 (op Xor) (λ d. refl) h
in_row (op Srl) w h = three w 51 5 0 (op Srl) (λ d. refl) h
in_row (op Or) w h = three w 51 6 0 (op Or) (λ d. refl) h
in_row (op And) w h = three w 51 7 0 (op And) (λ d. refl) h
in_row (op Sub) w h = three w 51 0 32 (op Sub) (λ d. refl) h
in_row (op Sra) w h = three w 51 5 32 (op Sra) (λ d. refl) h
in_row (op Mul) w h = three w 51 0 1 (op Mul) (λ d. refl) h
in_row (op Mulh) w h = three w 51 1 1 (op Mulh) (λ d. refl) h
in_row (op Mulhsu) w h = three w 51 2 1 (op Mulhsu) (λ d. refl) h
in_row (op Mulhu) w h = three w 51 3 1 (op Mulhu) (λ d. refl) h
in_row (op Div) w h = three w 51 4 1 (op Div) (λ d. refl) h
in_row (op Divu) w h = three w 51 5 1 (op Divu) (λ d. refl) h
in_row (op Rem) w h = three w 51 6 1 (op Rem) (λ d. refl) h
in_row (op Remu) w h = three w 51 7 1 (op Remu) (λ d. refl) h
in_row fence w h = two w 15 0 fence (λ c d. refl) h
in_row ecall w h =
    let parts = both (bits 0 7 w == 115) (bits 7 25 w == 0 && true) h in
    let first = eqb-true (bits 0 7 w) 115 parts.0 in
    at_upper w 115 0 (omega arith) (eqb-true (bits 7 25 w) 0 (both (bits 7 25 w == 0) true parts.1).0)

-- `find` gives an item that passes, and None where none does
find_passes : {X : Type 0} (p : X → Bool) (xs : List X) (x : X) → find p xs ≡ Some x → IsTrue (p x)
find_passes p [] x e = absurd (cc)
find_passes {X} p (y ∷ ys) x e =
    let split : (b : Bool) → p y ≡ b → cond b (Some y) (find p ys) ≡ Some x → IsTrue (p x) = λ b.
    elim b as (λ v. p y ≡ v → cond v (Some y) (find p ys) ≡ Some x → IsTrue (p x)) [
      | true ↦ λ is found. let same : x ≡ y = cc in rw (same, is) refl
      | false ↦ λ is found. find_passes p ys x found
    ] in
    split (p y) refl e

find_none : {X : Type 0} (p : X → Bool) (xs : List X) → ((x : X) → IsTrue (p x) → ⊥) → find p xs ≡ None
find_none p [] h = refl
find_none {X} p (y ∷ ys) h =
    let split : (b : Bool) → (IsTrue b → ⊥) → cond b (Some y) (find p ys) ≡ find p ys = λ b.
    elim b as (λ v. (IsTrue v → ⊥) → cond v (Some y) (find p ys) ≡ find p ys) [
      | true ↦ λ no. absurd (no refl)
      | false ↦ λ no. refl
    ] in
    split (p y) (h y) ∙ find_none p ys (λ x. h x)

-- what is read is in its row
pub is_in_row : (w : ℕ) (o : Operation) → operation_of w ≡ Some o → IsIn w o
unfolding operation_of
is_in_row w o e = find_passes (is_in w) operations o e

pub in_no_row : (w : ℕ) → ((o : Operation) → IsIn w o → ⊥) → operation_of w ≡ None
unfolding operation_of
in_no_row w h = find_none (is_in w) operations h

-- A word whose fields are those of an instruction is that instruction's.
use Rattle.std.proofs.Common.{◌≡◌, ℕ, ◌+◌, ◌%◌, Some, eq-eqb, refl, arith, sym, subst, [], ◌∷◌, List}
use Rattle.rv_isa.specs.Fields.{bits}
use Rattle.rv_isa.specs.Table.{Operation, Fixed, row, opcode, funct3, funct7, operation_of, instruction_of, fence}
use Rattle.rv_isa.specs.declared.instruction.Instr.TheVariants.{Fence}
use Rattle.rv_isa.specs.Valid.{IsValid}
use Rattle.rv_isa.proofs.Lookup.{made_fence}
use Rattle.rv_isa.proofs.Rows.{Has, in_row}

has_two : (w a b : ℕ) → w % 128 ≡ a → bits 12 3 w ≡ b → Has w (opcode a ∷ funct3 b ∷ [])
has_two w a b e f =
    let first : bits 0 7 w ≡ a = omega arith in
    rw (eq-eqb (bits 0 7 w) a first, eq-eqb (bits 12 3 w) b f) refl

has_three : (w a b c : ℕ) → w % 128 ≡ a → bits 12 3 w ≡ b → bits 25 7 w ≡ c → Has w (opcode a ∷ funct3 b ∷ funct7 c ∷ [])
has_three w a b c e f g =
    let first : bits 0 7 w ≡ a = omega arith in
    rw (eq-eqb (bits 0 7 w) a first, eq-eqb (bits 12 3 w) b f, eq-eqb (bits 25 7 w) c g) refl

-- the fields select the row
pub in_two : (o : Operation) (w a b : ℕ) → (row o).fixed ≡ opcode a ∷ funct3 b ∷ [] → w % 128 ≡ a → bits 12 3 w ≡ b → operation_of w ≡ Some o
in_two o w a b is e f = in_row o w (subst (λ (fs : List Fixed). Has w fs) (sym is) (has_two w a b e f))

pub in_three : (o : Operation) (w a b c : ℕ) → (row o).fixed ≡ opcode a ∷ funct3 b ∷ funct7 c ∷ [] → w % 128 ≡ a → bits 12 3 w ≡ b → bits 25 7 w ≡ c → operation_of w ≡ Some o
in_three o w a b c is e f g = in_row o w (subst (λ (fs : List Fixed). Has w fs) (sym is) (has_three w a b c e f g))

pub fence_again : (free : ℕ) → IsValid (Fence free) → Some (Fence free) ≡ instruction_of (free + 15)
fence_again free h =
    let low = h.1 in
    let middle = h.2 in
    made_fence (free + 15) free (in_two fence (free + 15) 15 0 refl (omega arith) (omega arith)) (omega arith)

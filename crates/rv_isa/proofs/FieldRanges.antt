-- The fields of a word are in their ranges.
use Rattle.std.proofs.Common.{◌≡◌, ℕ, suc, ◌+◌, ◌-◌, ◌*◌, ◌%◌, ◌^◌, ◌<◌, ◌≤◌, pos, negsuc, neg_ℤ, ◌-ℤ◌, ◌≤ℤ◌, ◌<ℤ◌, arith, ◌∙◌, inl, inr}
use Rattle.std.specs.Prelude.{unsigned_abs}
use Rattle.std.proofs.lemmas.Int.{ints}
use Rattle.std.proofs.lemmas.Bool.{cases_lt}
use Rattle.std.proofs.lemmas.Bool.Decides.{nat_tests}
use Rattle.rv_isa.specs.declared.instruction.ImmOp.TheVariants.{Addi, Slti, Sltiu, Xori, Ori, Andi, Slli, Srli, Srai}
use Rattle.rv_isa.specs.Fields.{bits, signed, immediate, I, S, B, J, Shift}
use Rattle.rv_isa.specs.Table.{Operation, with_fields, lui, auipc, jal, jalr, branch, load, store, op_imm, op, fence, ecall}
use Rattle.rv_isa.specs.Valid.{IsValid, IsWithin, IsOffset}

-- `signed` by cases on the sign
pub signed_low : (sign n : ℕ) → n < sign → signed sign n ≡ pos n
signed_low sign n h = grind (arith, nat_tests)

pub signed_high : (sign n : ℕ) → sign ≤ n → n < 2 * sign → signed sign n ≡ negsuc (2 * sign - suc n)
signed_high sign n h k =
    let high : signed sign n ≡ (pos n -ℤ pos (2 * sign)) = grind (arith, nat_tests) in
    high ∙ omega (arith, ints)

pub signed_within : (sign n : ℕ) → n < 2 * sign → (neg_ℤ (pos sign) ≤ℤ signed sign n) × (signed sign n <ℤ pos sign)
signed_within sign n h =
    elim (cases_lt n sign) [
      | inl low ↦ rw (signed_low sign n low) (omega (arith, ints), omega (arith, ints))
      | inr high ↦ rw (signed_high sign n high h) (omega (arith, ints), omega (arith, ints))
    ]

pub signed_even : (sign n : ℕ) → n < 2 * sign → n % 2 ≡ 0 → unsigned_abs (signed sign n) % 2 ≡ 0
signed_even sign n h e =
    elim (cases_lt n sign) [
      | inl low ↦ rw (signed_low sign n low) e
      | inr high ↦ rw (signed_high sign n high h) (omega arith)
    ]

immediate_within : (w : ℕ) → (IsWithin 11 (immediate I w)) × (IsWithin 11 (immediate S w))
immediate_within w = (
  (signed_within (2 ^ 11) (bits 20 12 w) (omega arith)),
  (signed_within (2 ^ 11) (bits 25 7 w * 2 ^ 5 + bits 7 5 w) (omega arith)),
)

offset_of : (k n : ℕ) → n < 2 * 2 ^ k → n % 2 ≡ 0 → IsOffset k (signed (2 ^ k) n)
offset_of k n h e = (signed_within (2 ^ k) n h, signed_even (2 ^ k) n h e)

offset_b : (w : ℕ) → IsOffset 12 (immediate B w)
offset_b w = offset_of 12 (bits 31 1 w * 2 ^ 12 + bits 7 1 w * 2 ^ 11 + bits 25 6 w * 2 ^ 5 + bits 8 4 w * 2) (omega arith) (omega arith)

offset_j : (w : ℕ) → IsOffset 20 (immediate J w)
offset_j w = offset_of 20 (bits 31 1 w * 2 ^ 20 + bits 12 8 w * 2 ^ 12 + bits 20 1 w * 2 ^ 11 + bits 21 10 w * 2) (omega arith) (omega arith)

amount : (w : ℕ) → (pos 0 ≤ℤ immediate Shift w) × (immediate Shift w <ℤ pos 32)
amount w = (omega (arith, ints), omega (arith, ints))

pub fields_valid : (o : Operation) (w : ℕ) → IsValid (with_fields o w)
fields_valid lui w = (omega arith, omega arith)
fields_valid auipc w = (omega arith, omega arith)
fields_valid jal w = (omega arith, offset_j w)
fields_valid jalr w = (omega arith, omega arith, (immediate_within w).0)
fields_valid (branch o) w = (omega arith, omega arith, offset_b w)
fields_valid (load o) w = (omega arith, omega arith, (immediate_within w).0)
fields_valid (store o) w = (omega arith, omega arith, (immediate_within w).1)
fields_valid (op_imm Slli) w = (omega arith, omega arith, amount w)
fields_valid (op_imm Srli) w = (omega arith, omega arith, amount w)
fields_valid (op_imm Srai) w = (omega arith, omega arith, amount w)
fields_valid (op_imm Addi) w = (omega arith, omega arith, (immediate_within w).0)
fields_valid (op_imm Slti) w = (omega arith, omega arith, (immediate_within w).0)
fields_valid (op_imm Sltiu) w = (omega arith, omega arith, (immediate_within w).0)
fields_valid (op_imm Xori) w = (omega arith, omega arith, (immediate_within w).0)
fields_valid (op_imm Ori) w = (omega arith, omega arith, (immediate_within w).0)
fields_valid (op_imm Andi) w = (omega arith, omega arith, (immediate_within w).0)
fields_valid (op o) w = (omega arith, omega arith, omega arith)
fields_valid fence w = (omega arith, omega arith, omega arith)
fields_valid ecall w = tt

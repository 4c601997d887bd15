-- What signed division leaves in 32 bits.
use Rattle.std.proofs.Common.{◌≡◌, ◌≢◌, ◌==◌, ℕ, zero, suc, ◌-◌, ◌^◌, ◌<◌, ◌≤◌, ◌&&◌, Bool, true, false, ℤ, pos, negsuc, neg_ℤ, refl, arith, ◌∙◌}
use Rattle.std.specs.Prelude.{unsigned_abs, int_div, if◌then◌else◌}
use Rattle.std.specs.Int.{w32, int_wrapping_div}
use Rattle.std.proofs.Math.Nat.{div-le_self}
use Rattle.std.proofs.lemmas.Bool.{ne_eqb, eqb-true}
use Rattle.std.proofs.lemmas.Bool.Decides.{nat_tests}
use Rattle.std.proofs.lemmas.Int.{of_z-to_z}
use Rattle.rv_isa.specs.declared.instruction.RegOp.TheVariants.{Div}
use Rattle.rv_exec.specs.Meaning.{signed, unsigned, is_overflow, result_of}

abs_neg : (n : ℕ) → unsigned_abs (neg_ℤ (pos n)) ≡ n
abs_neg zero = refl
abs_neg (suc n) = refl

-- a quotient is no greater than its dividend
abs_quotient : (y z : ℤ) → unsigned_abs (int_div y z) ≤ unsigned_abs y
abs_quotient (pos a) (pos b) = div-le_self a b
abs_quotient (pos a) (negsuc b) = rw abs_neg (div-le_self a (suc b))
abs_quotient (negsuc a) (pos b) = rw abs_neg (div-le_self (suc a) b)
abs_quotient (negsuc a) (negsuc b) = div-le_self (suc a) (suc b)

abs_signed : (n : ℕ) → n < 2 ^ 32 → unsigned_abs (signed n) ≤ 2 ^ 31
abs_signed n h = grind (arith, nat_tests)

unsigned_small : (z : ℤ) → unsigned_abs z ≤ 2 ^ 31 → unsigned z < 2 ^ 32
unsigned_small (pos n) h = omega arith
unsigned_small (negsuc n) h = omega arith

quotient_again : (a b : ℕ) → a < 2 ^ 32 → unsigned (int_wrapping_div w32 (signed a) (signed b)) ≡ unsigned (int_div (signed a) (signed b))
quotient_again a b h =
    let small = abs_signed a h in
    let less = abs_quotient (signed a) (signed b) in
    of_z-to_z w32 (unsigned (int_div (signed a) (signed b))) (unsigned_small (int_div (signed a) (signed b)) (omega arith))

both : (p q : Bool) → (p && q) ≡ true → (p ≡ true) × (q ≡ true)
both true q h = (refl, h)
both false q h = absurd (cc)

overflows : (a b : ℕ) → a ≡ 2 ^ 31 → b ≡ 2 ^ 32 - 1 → unsigned (int_div (signed a) (signed b)) ≡ 2 ^ 31
overflows a b e f = rw (e, f) refl

pub divided : (a b r : ℕ) → a < 2 ^ 32 → b ≢ 0 → r ≡ unsigned (int_wrapping_div w32 (signed a) (signed b)) → r ≡ result_of Div a b
divided a b r h nonzero is =
    let split : (v : Bool) → is_overflow a b ≡ v → unsigned (int_div (signed a) (signed b)) ≡ (if v then 2 ^ 31 else unsigned (int_div (signed a) (signed b))) = λ v.
    elim v as (λ v. is_overflow a b ≡ v → unsigned (int_div (signed a) (signed b)) ≡ (if v then 2 ^ 31 else unsigned (int_div (signed a) (signed b)))) [
      | true ↦ λ e. let parts = both (a == 2 ^ 31) (b == 2 ^ 32 - 1) e in overflows a b (eqb-true a (2 ^ 31) parts.0) (eqb-true b (2 ^ 32 - 1) parts.1)
      | false ↦ λ e. refl
    ] in
    is ∙ (quotient_again a b h ∙ (split (is_overflow a b) refl ∙ rw (ne_eqb b 0 nonzero) refl))

-- The upper part of a constant is its quotient, rounded to the nearest.
use Rattle.std.proofs.Common.{◌≡◌, ℕ, ◌+◌, ◌*◌, ◌/◌, ◌%◌, ◌^◌, Bool, true, false, cond, ltb, ℤ, pos, refl, ap, ◌∙◌, sym, arith}
use Rattle.std.specs.Prelude.{◌-ℤ◌, unsigned_abs}
use Rattle.std.proofs.lemmas.Bool.{ltb-true, ltb-false}
use Rattle.std.proofs.lemmas.Int.{ints}
use Rattle.guest_asm.specs.Codes.{upper_part}

by_low : (t : Bool) (value : ℕ) → ltb (value % 2 ^ 12) (2 ^ 11) ≡ t
    → (pos value -ℤ cond t (pos (value % 2 ^ 12)) (pos (value % 2 ^ 12) -ℤ pos (2 * 2 ^ 11))) ≡ pos ((value + 2 ^ 11) / 2 ^ 12 * 2 ^ 12)
by_low true value h = let low = ltb-true _ _ h in omega (arith, ints)
by_low false value h = let high = ltb-false _ _ h in omega (arith, ints)

pub upper : (value : ℕ) → (value + 2 ^ 11) / 2 ^ 12 % 2 ^ 20 ≡ upper_part value
upper value =
    let whole : (value + 2 ^ 11) / 2 ^ 12 ≡ (value + 2 ^ 11) / 2 ^ 12 * 2 ^ 12 / 2 ^ 12 = omega arith in
    ap (λ (q : ℕ). q % 2 ^ 20) (whole ∙ ap (λ (z : ℤ). unsigned_abs z / 2 ^ 12) (sym (by_low (ltb (value % 2 ^ 12) (2 ^ 11)) value refl)))

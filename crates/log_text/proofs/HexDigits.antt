-- The digits of a number in base 16, from the last to the first.
use Rattle.std.proofs.Common.{◌≡◌, ℕ, suc, zero, ◌-◌, ◌+◌, ◌<◌, ◌≤◌, ◌/◌, ◌%◌, length, drop, set, Bool, true, false, cond, List, [], ◌∷◌, refl, ap, ◌∙◌, eqb, arith}
use Rattle.std.proofs.lemmas.Bool.{eq-eqb, ne_eqb}
use Rattle.std.proofs.lemmas.List.{drop-set}
use Rattle.std.specs.Fmt.{digits, digits_onto, digit_glyph}

-- no digit is written yet
pub hex_begun : (n : ℕ) → digits_onto 64 16 false n [] ≡ digits 16 false n
unfolding digits
hex_begun n = refl

-- the digit that is written next, where it is the first one of the number or not
module _ (n : ℕ) (written : List ℕ) where
  step : (k : ℕ) (b : Bool) → eqb (n / 16) 0 ≡ b → digits_onto (suc k) 16 false n written
      ≡ cond b (digit_glyph false (n % 16) ∷ written) (digits_onto k 16 false (n / 16) (digit_glyph false (n % 16) ∷ written))
  step k b is = ap (λ (t : Bool). cond t (digit_glyph false (n % 16) ∷ written) (digits_onto k 16 false (n / 16) (digit_glyph false (n % 16) ∷ written))) is

  pub hex_ended : (i : ℕ) → 0 < i → n / 16 ≡ 0 → digits_onto i 16 false n written ≡ digit_glyph false (n % 16) ∷ written
  hex_ended zero some none = absurd (omega arith)
  hex_ended (suc k) some none = step k true (eq-eqb _ 0 none)

  pub hex_goes_on : (i : ℕ) → 0 < i → (n / 16 ≡ 0 → ⊥) → digits_onto i 16 false n written ≡ digits_onto (i - 1) 16 false (n / 16) (digit_glyph false (n % 16) ∷ written)
  hex_goes_on zero some more = absurd (omega arith)
  hex_goes_on (suc k) some more = step k false (ne_eqb _ 0 more) ∙ ap (λ (j : ℕ). digits_onto j 16 false (n / 16) (digit_glyph false (n % 16) ∷ written)) {x = k} {y = suc k - 1} (omega arith)

-- a byte that is written before those from i on
pub hex_next : (buffer : List ℕ) (i digit : ℕ) → 0 < i → i ≤ length buffer → drop (i - 1) (set buffer (i - 1) digit) ≡ digit ∷ drop i buffer
hex_next buffer i digit some inside =
    drop-set buffer (i - 1) digit (omega arith) ∙ ap (λ (k : ℕ). digit ∷ drop k buffer) {x = i - 1 + 1} {y = i} (omega arith)

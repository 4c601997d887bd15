-- Numbers at the start of a text.
use Rattle.std.specs.Prelude.{◌≡◌, ℕ, ◌<◌, ◌≤◌, false, List, [], ◌∷◌, ◌++◌}
use Rattle.std.specs.Fmt.{digits, digit_glyph}

-- the first byte is a digit of the base
abbrev pub BeginsWithDigit : ℕ → List ℕ → Type 0
BeginsWithDigit base [] = ⊥
BeginsWithDigit base (byte ∷ rest) = (value : ℕ) × (value < base) × (byte ≡ digit_glyph false value)

-- the text is a number up to high, and a rest that does not carry it on
pub record BeginsWithNumber (base high : ℕ) (text : List ℕ) (n : ℕ) (rest : List ℕ) : Type 0 where
  pub low : n ≤ high
  pub spelled : text ≡ digits base false n ++ rest
  pub ends : BeginsWithDigit base rest → ⊥

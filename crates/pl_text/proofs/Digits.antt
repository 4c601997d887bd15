-- The table of digits, checked byte by byte.
use Rattle.std.proofs.Common.{◌≡◌, ℕ, zero, suc, ◌<◌, Bool, true, ◌&&◌, eqb, get_or, ◌≤◌, ◌+◌, ◌-◌, ◌*◌, take, take_all, drop, length, List, [], ◌∷◌, false, sym, ap, ◌∙◌, refl, arith}
use Rattle.std.specs.Fmt.{decimal, digits, digit_glyph}
use Rattle.std.proofs.lemmas.Bool.Decides.{Decides-below_and, Decides-eqb}
use Rattle.std.proofs.Math.Nat.{mul-suc}
use Rattle.pl_text.specs.declared.digit.TheConstants.{VALUES}
use Rattle.pl_text.proofs.Reading.{digit}
use Rattle.pl_text.proofs.Spelling.{glyph_digit, digit_glyph_is, one_digit as one_glyph}

abbrev all_agree : ℕ → Bool
all_agree zero = true
all_agree (suc n) = eqb (get_or VALUES n 0) (digit n) && all_agree n

all_checked : all_agree 256 ≡ true
all_checked = refl

pub value_is : (byte : ℕ) → byte < 256 → get_or VALUES byte 0 ≡ digit byte
value_is = (Decides-below_and (λ b. eqb (get_or VALUES b 0) (digit b)) (λ b. get_or VALUES b 0 ≡ digit b) all_agree (λ b. Decides-eqb _ _) refl (λ _. refl) 256).0 all_checked

-- the value of a byte in the table is that of the digit that the byte is, and 16 for no digit
pub found : (byte at : ℕ) → byte < 256 → at ≡ byte → get_or VALUES at 0 < 16 → byte ≡ digit_glyph false (get_or VALUES at 0)
found byte at few same small =
    let is : get_or VALUES at 0 ≡ digit byte = ap (λ (k : ℕ). get_or VALUES k 0) same ∙ value_is byte few in
    sym (ap (digit_glyph false) is ∙ glyph_digit byte (omega (arith, is)))

pub every : (byte at value : ℕ) → byte < 256 → at ≡ byte → value < 16 → byte ≡ digit_glyph false value → get_or VALUES at 0 ≡ value
every byte at value few same small glyph =
    ap (λ (k : ℕ). get_or VALUES k 0) same ∙ value_is byte few ∙ ap digit glyph ∙ digit_glyph_is value small

-- one digit in base 10
pub one_digit : (digit : ℕ) → digit < 10 → decimal digit ≡ digit_glyph false digit ∷ []
unfolding digits
one_digit digit small = one_glyph 63 10 digit small

pub first_byte_is : {x y : ℕ} {a b : List ℕ} → x ∷ a ≡ y ∷ b → x ≡ y
first_byte_is e = cc

pub rest_is : {x y : ℕ} {a b : List ℕ} → x ∷ a ≡ y ∷ b → a ≡ b
rest_is e = cc

-- a glyph has one value
pub same_value : (a b : ℕ) → a < 16 → b < 16 → digit_glyph false a ≡ digit_glyph false b → a ≡ b
same_value a b few small e = sym (digit_glyph_is a few) ∙ ap digit e ∙ digit_glyph_is b small

-- a second digit multiplies the number by the base
pub second : (value base d : ℕ) → 2 ≤ base → value + 1 * (value * (base - 1) + d) ≡ value * base + d
second value base d low =
    let less : base ≡ suc (base - 1) = omega arith in
    let product : value * base ≡ value * (base - 1) + value = ap (λ (n : ℕ). value * n) less ∙ mul-suc value (base - 1) in
    omega (arith, product)

-- a text without its first byte
pub behind_one : {text rest : List ℕ} {byte : ℕ} → text ≡ byte ∷ rest → take (length text - 1) (drop 1 text) ≡ rest
behind_one {text} {rest} {byte} e =
    let count : length text - 1 ≡ length rest = omega (arith, ap length e) in
    ap (λ (n : ℕ). take n (drop 1 text)) count ∙ ap (λ (t : List ℕ). take (length rest) (drop 1 t)) e ∙ take_all (length rest) rest (omega arith)

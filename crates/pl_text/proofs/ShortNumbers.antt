-- Numbers of one digit or two.
use Rattle.std.proofs.Common.{◌≡◌, ℕ, ◌+◌, ◌-◌, ◌*◌, ◌/◌, ◌%◌, ◌<◌, Bool, true, false, not, ◌&&◌, eqb, ltb, List, [], ◌∷◌, ◌++◌, length, take, take_all, drop, inl, inr, refl, sym, ap, subst, ◌∙◌, ◌≤◌, arith}
use Rattle.std.specs.Fmt.{decimal, digits, digit_glyph}
use Rattle.std.proofs.lemmas.Bool.{and_parts, and_from, ltb-true, lt-ltb, le-ltb, eqb-false, ne_eqb, cases_lt, cases_Bool}
use Rattle.std.proofs.lemmas.Nat.{div-mul-add, mod-mul-add}
use Rattle.pl_text.specs.Number.{BeginsWithDigit}
use Rattle.pl_text.proofs.Spelling.{small_div, small_mod}
use Rattle.pl_text.proofs.Digits.{one_digit, first_byte_is, rest_is, same_value, behind_one}

-- two digits, the first of which is not 0
pub two_digits : (tens ones : ℕ) → 0 < tens → tens < 10 → ones < 10 → decimal (tens * 10 + ones) ≡ digit_glyph false tens ∷ digit_glyph false ones ∷ []
unfolding digits
two_digits tens ones some few small =
    let quotient : (tens * 10 + ones) / 10 ≡ tens = div-mul-add tens 10 ones small in
    let rest : (tens * 10 + ones) % 10 ≡ ones = mod-mul-add tens 10 ones small in
    let first : tens / 10 ≡ 0 = small_div 10 tens few in
    let itself : tens % 10 ≡ tens = small_mod 10 tens few in
    rw (quotient, rest, ne_eqb tens 0 (λ e. omega (arith, some, e)), first, itself) refl

-- what was read: a digit, and another one after it or none
pub record IsRead (text left : List ℕ) (figure digit : ℕ) : Type 0 where
  pub first : text ≡ digit_glyph false figure ∷ left
  pub below : figure < 10
  pub found : digit < 10 → (rest : List ℕ) × (left ≡ digit_glyph false digit ∷ rest)
  pub every : (value : ℕ) (rest : List ℕ) → value < 10 → left ≡ digit_glyph false value ∷ rest → digit ≡ value

abbrev pub has_more : ℕ → ℕ → Bool
has_more figure digit = ltb digit 10 && not (eqb figure 0)

-- so many digits more are taken
pub record Takes (figure digit count : ℕ) : Type 0 where
  pub one : has_more figure digit ≡ true → count ≡ 1
  pub none : has_more figure digit ≡ false → count ≡ 0

abbrev pub value_of : ℕ → ℕ → ℕ → ℕ
value_of figure digit count = figure + count * (figure * 9 + digit)

abbrev pub left_of : List ℕ → ℕ → List ℕ
left_of left count = take (length left - count) (drop count left)

left_whole : (left : List ℕ) → left_of left 0 ≡ left
left_whole left = take_all (length left - 0) left (omega arith)

positive : (figure digit : ℕ) → has_more figure digit ≡ true → (digit < 10) × (0 < figure)
positive figure digit more =
    let parts = and_parts (ltb digit 10) (not (eqb figure 0)) more in
    (ltb-true digit 10 parts.0, omega (arith, eqb-false figure 0 (not_true (eqb figure 0) parts.1)))
  where
    not_true : (b : Bool) → not b ≡ true → b ≡ false
    not_true true e = absurd cc
    not_true false e = refl

value_two : (figure digit count : ℕ) → count ≡ 1 → value_of figure digit count ≡ figure * 10 + digit
value_two figure digit count one = ap (value_of figure digit) one ∙ omega arith

value_one : (figure digit count : ℕ) → count ≡ 0 → value_of figure digit count ≡ figure
value_one figure digit count none = ap (value_of figure digit) none ∙ omega arith

pub short_found : (text left : List ℕ) (figure digit count skipped : ℕ) → IsRead text left figure digit → Takes figure digit count → Takes figure digit skipped
    → (value_of figure digit count < 100) × (text ≡ decimal (value_of figure digit count) ++ left_of left skipped)
short_found text left figure digit count skipped read takes skips = elim (cases_Bool (has_more figure digit)) [
  | inl more ↦
      let parts = positive figure digit more in
      let value = value_two figure digit count (takes.one more) in
      let second = read.found parts.0 in
      let rest : left_of left skipped ≡ second.0 = ap (left_of left) (skips.one more) ∙ behind_one second.1 in (
        omega (arith, value, parts.0, read.below),
        read.first ∙ ap (λ (t : List ℕ). digit_glyph false figure ∷ t) second.1
            ∙ ap (λ (t : List ℕ). digit_glyph false figure ∷ digit_glyph false digit ∷ t) (sym rest)
            ∙ ap (λ (t : List ℕ). t ++ left_of left skipped) (sym (ap decimal value ∙ two_digits figure digit parts.1 read.below parts.0)),
      )
  | inr alone ↦
      let value = value_one figure digit count (takes.none alone) in
      let rest : left_of left skipped ≡ left = ap (left_of left) (skips.none alone) ∙ left_whole left in (
        omega (arith, value, read.below),
        read.first ∙ ap (λ (t : List ℕ). digit_glyph false figure ∷ t) (sym rest)
            ∙ ap (λ (t : List ℕ). t ++ left_of left skipped) (sym (ap decimal value ∙ one_digit figure read.below)),
      )
]

-- a number of two digits by its digits
parted : (n : ℕ) → 10 ≤ n → n < 100 → (0 < n / 10) × (n / 10 < 10) × (n % 10 < 10) × (n ≡ n / 10 * 10 + n % 10)
parted n low high = (omega arith, omega arith, omega arith, omega arith)

pub short_every : (text left : List ℕ) (figure digit count skipped n : ℕ) (rest : List ℕ) → IsRead text left figure digit → Takes figure digit count → Takes figure digit skipped
    → n < 100 → (BeginsWithDigit 10 rest → ⊥) → text ≡ decimal n ++ rest → (value_of figure digit count ≡ n) × (left_of left skipped ≡ rest)
short_every text left figure digit count skipped n rest read takes skips few closed e = elim (cases_lt n 10) [
  | inl small ↦
      let there = sym read.first ∙ e ∙ ap (λ (t : List ℕ). t ++ rest) (one_digit n small) in
      let same : figure ≡ n = same_value figure n (omega (arith, read.below)) (omega arith) (first_byte_is there) in
      let behind : left ≡ rest = rest_is there in
      let alone : has_more figure digit ≡ false = no_more behind in
      (value_one figure digit count (takes.none alone) ∙ same, ap (left_of left) (skips.none alone) ∙ left_whole left ∙ behind)
  | inr large ↦
      let p = parted n large few in
      let word : decimal n ≡ digit_glyph false (n / 10) ∷ digit_glyph false (n % 10) ∷ [] = ap decimal p.3 ∙ two_digits (n / 10) (n % 10) p.0 p.1 p.2 in
      let there = sym read.first ∙ e ∙ ap (λ (t : List ℕ). t ++ rest) word in
      let tens : figure ≡ n / 10 = same_value figure (n / 10) (omega (arith, read.below)) (omega (arith, p.1)) (first_byte_is there) in
      let behind : left ≡ digit_glyph false (n % 10) ∷ rest = rest_is there in
      let ones : digit ≡ n % 10 = read.every (n % 10) rest p.2 behind in
      let more : has_more figure digit ≡ true = both (omega (arith, ones, p.2)) (omega (arith, tens, p.0)) in
      (value_two figure digit count (takes.one more) ∙ omega (arith, tens, ones, p.3), ap (left_of left) (skips.one more) ∙ behind_one behind)
]
  where
    no_more : left ≡ rest → has_more figure digit ≡ false
    no_more behind = elim (cases_lt digit 10) [
      | inl small ↦ let second = read.found small in absurd (closed (begins (sym behind ∙ second.1) small))
      | inr large ↦ ap (λ b. b && not (eqb figure 0)) (le-ltb digit 10 large)
    ]
      where
        begins : {after : List ℕ} → rest ≡ digit_glyph false digit ∷ after → digit < 10 → BeginsWithDigit 10 rest
        begins at small = subst (BeginsWithDigit 10) (sym at) (digit, small, refl)

    both : digit < 10 → 0 < figure → has_more figure digit ≡ true
    both small some = and_from (ltb digit 10) (not (eqb figure 0)) (lt-ltb digit 10 small) (ap not (ne_eqb figure 0 (λ z. omega (arith, some, z))))

-- a number begins with a digit
pub some_digit : (n : ℕ) (rest : List ℕ) → n < 100 → (digit : ℕ) × (behind : List ℕ) × (digit < 10) × (decimal n ++ rest ≡ digit_glyph false digit ∷ behind)
some_digit n rest few = elim (cases_lt n 10) [
  | inl small ↦ (n, rest, small, ap (λ (t : List ℕ). t ++ rest) (one_digit n small))
  | inr large ↦
      let p = parted n large few in
      (n / 10, digit_glyph false (n % 10) ∷ rest, p.1, ap (λ (t : List ℕ). t ++ rest) (ap decimal p.3 ∙ two_digits (n / 10) (n % 10) p.0 p.1 p.2))
]

-- Bytes from pairs of hex digits.
use Rattle.std.proofs.Common.{◌≡◌, ℕ, ◌+◌, ◌*◌, ◌^◌, ◌<◌, Bool, true, false, ◌&&◌, cond, eqb, ltb, List, [], ◌∷◌, ◌++◌, length, Option, Some, None, option_and_then, refl, ap, ◌∙◌, sym, arith}
use Rattle.std.specs.Option.{option_map}
use Rattle.std.proofs.lemmas.List.{append_assoc, append-nil}
use Rattle.std.proofs.lemmas.Bool.{ltb-true, eqb-true}
use Rattle.guest_asm.specs.Numbers.{digit_value, is_digit, digits_value, digits_of}
use Rattle.guest_asm.specs.Statements.{pair_at, hex_pairs}

small : (x y n : ℕ) → x < 16 → y < 16 → n ≡ (0 * 16 + x) * 16 + y → n < 256
small x y n h k e = omega arith

two : (x y : ℕ) (p q r : Bool) (n : ℕ) → (p ≡ true → x < 16) → (q ≡ true → y < 16) → Some n ≡ cond ((true && (p && (q && true))) && r) (Some ((0 * 16 + x) * 16 + y)) None → n < 256
two x y true true true n h k e = small x y n (h refl) (k refl) cc
two x y true true false n h k e = absurd cc
two x y true false r n h k e = absurd cc
two x y false q r n h k e = absurd cc

-- two digits make a byte
pub two_digits : (a b n : ℕ) → Some n ≡ digits_of 16 (a ∷ b ∷ []) → n < 256
unfolding digits_of
two_digits a b n e = two (digit_value a) (digit_value b) (is_digit 16 a) (is_digit 16 b) (ltb (digits_value 16 (a ∷ b ∷ [])) (2 ^ 32)) n (ltb-true (digit_value a) 16) (ltb-true (digit_value b) 16) e

behind : (front : List ℕ) (n : ℕ) (o : Option (List ℕ)) → option_map (λ more. front ++ more) (option_map (λ bytes. n ∷ bytes) o) ≡ option_map (λ more. (front ++ n ∷ []) ++ more) o
behind front n None = refl
behind front n (Some xs) = ap Some (sym (append_assoc front (n ∷ []) xs))

abbrev with_rest : List ℕ → Option ℕ → Option (ℕ × List ℕ)
with_rest rest o = option_map (λ byte. (byte, rest)) o

abbrev first_of : Option (ℕ × List ℕ) → ℕ
first_of None = 0
first_of (Some p) = p.0

abbrev rest_of : Option (ℕ × List ℕ) → List ℕ
rest_of None = []
rest_of (Some p) = p.1

-- one more byte
module _ (front : List ℕ) (byte : ℕ) (after : List ℕ) where
  taken : (rest : List ℕ) (o : Option ℕ) → Some (byte, after) ≡ with_rest rest o
      → option_map (λ more. front ++ more) (option_and_then (λ n. option_map (λ bytes. n ∷ bytes) (hex_pairs rest)) o) ≡ option_map (λ more. (front ++ byte ∷ []) ++ more) (hex_pairs after)
  taken rest None e = absurd cc
  taken rest (Some n) e =
      let same : byte ≡ n = ap first_of e in
      let left : after ≡ rest = ap rest_of e in
      behind front n (hex_pairs rest)
      ∙ ap (λ (m : ℕ). option_map (λ more. (front ++ m ∷ []) ++ more) (hex_pairs rest)) (sym same)
      ∙ ap (λ (r : List ℕ). option_map (λ more. (front ++ byte ∷ []) ++ more) (hex_pairs r)) (sym left)

  pub pairs-more : (text : List ℕ) → Some (byte, after) ≡ pair_at text → option_map (λ more. front ++ more) (hex_pairs text) ≡ option_map (λ more. (front ++ byte ∷ []) ++ more) (hex_pairs after)
  unfolding pair_at
  pairs-more [] e = absurd cc
  pairs-more (a ∷ []) e = absurd cc
  pairs-more (a ∷ b ∷ rest) e = taken rest (digits_of 16 (a ∷ b ∷ [])) e

shorter : (byte : ℕ) (after rest : List ℕ) (o : Option ℕ) → Some (byte, after) ≡ with_rest rest o → after ≡ rest
shorter byte after rest None e = absurd cc
shorter byte after rest (Some n) e = ap rest_of e

pub pairs-shorter : (byte : ℕ) (after text : List ℕ) → Some (byte, after) ≡ pair_at text → length after < length text
unfolding pair_at
pairs-shorter byte after [] e = absurd cc
pairs-shorter byte after (a ∷ []) e = absurd cc
pairs-shorter byte after (a ∷ b ∷ rest) e = omega (arith, ap length (shorter byte after rest (digits_of 16 (a ∷ b ∷ [])) e))

missed : (rest : List ℕ) (o : Option ℕ) → None ≡ with_rest rest o → option_and_then (λ n. option_map (λ bytes. n ∷ bytes) (hex_pairs rest)) o ≡ None
missed rest None e = refl
missed rest (Some n) e = absurd cc

-- no pair is there
pub pairs-none : (text : List ℕ) → eqb (length text) 0 ≡ false → None ≡ pair_at text → hex_pairs text ≡ None
unfolding pair_at
pairs-none [] full e = absurd cc
pairs-none (a ∷ []) full e = refl
pairs-none (a ∷ b ∷ rest) full e = missed rest (digits_of 16 (a ∷ b ∷ [])) e

pub pairs-end : (front text : List ℕ) → eqb (length text) 0 ≡ true → option_map (λ more. front ++ more) (hex_pairs text) ≡ Some front
pairs-end front [] e = ap Some (append-nil front)
pairs-end front (b ∷ bs) e = absurd (omega (arith, eqb-true _ _ e))

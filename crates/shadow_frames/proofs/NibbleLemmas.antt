-- The nibbles of a word, one of which is replaced, and words whose nibbles are all the same.
use Rattle.std.proofs.Common.{◌≡◌, ℕ, zero, suc, ◌+◌, ◌*◌, ◌-◌, ◌/◌, ◌%◌, ◌^◌, ◌<◌, ◌≤◌, Bool, eqb, refl, sym, ap, ◌∙◌, subst, arith, eq-eqb, ne_eqb, if◌then◌else◌}
use Rattle.std.proofs.lemmas.Nat.{shr-shr}
use Rattle.std.proofs.Math.Nat.{pow-suc}
use mathlib.Core.Logic.{dite}
use native.Mathlib.Decide.{ℕ_discrete}
use Rattle.shadow_frames.specs.Words.{nibble_of, repeated, all_nibbles, IsFilledWith}

pub nibble_below : (x i : ℕ) → nibble_of x i < 16
nibble_below x zero = omega arith
nibble_below x (suc i) = nibble_below (x / 16) i

-- a nibble by a shift
pub shifted_nibble : (x i : ℕ) → x / 2 ^ (4 * i) % 16 ≡ nibble_of x i
shifted_nibble x zero = let e : x / 1 ≡ x = omega arith in ap (λ (z : ℕ). z % 16) e
shifted_nibble x (suc i) =
    let e : 4 * suc i ≡ 4 + 4 * i = omega arith in
    ap (λ (z : ℕ). x / 2 ^ z % 16) e ∙ (ap (λ (z : ℕ). z % 16) (sym (shr-shr x 4 (4 * i))) ∙ shifted_nibble (x / 16) i)

-- ---- one nibble replaced

-- the word with n for nibble i
abbrev replaced : ℕ → ℕ → ℕ → ℕ
replaced x n zero = x / 16 * 16 + n
replaced x n (suc i) = x % 16 + 16 * replaced (x / 16) n i

power : (i : ℕ) → 2 ^ (4 * suc i) ≡ 16 * 2 ^ (4 * i)
power i =
    let e : 4 * suc i ≡ suc (suc (suc (suc (4 * i)))) = omega arith in
    let a : 2 ^ suc (suc (suc (suc (4 * i)))) ≡ 2 ^ suc (suc (suc (4 * i))) * 2 = pow-suc 2 (suc (suc (suc (4 * i)))) in
    let b : 2 ^ suc (suc (suc (4 * i))) ≡ 2 ^ suc (suc (4 * i)) * 2 = pow-suc 2 (suc (suc (4 * i))) in
    let c : 2 ^ suc (suc (4 * i)) ≡ 2 ^ suc (4 * i) * 2 = pow-suc 2 (suc (4 * i)) in
    let d : 2 ^ suc (4 * i) ≡ 2 ^ (4 * i) * 2 = pow-suc 2 (4 * i) in
    ap (λ (z : ℕ). 2 ^ z) e ∙ sixteen (2 ^ suc (suc (suc (suc (4 * i))))) (2 ^ suc (suc (suc (4 * i)))) (2 ^ suc (suc (4 * i))) (2 ^ suc (4 * i)) (2 ^ (4 * i)) a b c d
  where
    sixteen : (p q r s t : ℕ) → p ≡ q * 2 → q ≡ r * 2 → r ≡ s * 2 → s ≡ t * 2 → p ≡ 16 * t
    sixteen p q r s t a b c d = omega arith

scaled : (a p q : ℕ) → q ≡ 16 * p → a * q ≡ 16 * (a * p)
scaled a p q e = ap (λ (z : ℕ). a * z) e ∙ swapped a p
  where
    swapped : (a p : ℕ) → a * (16 * p) ≡ 16 * (a * p)
    swapped a p = grind arith

pub replaced_is : (x n i : ℕ) → (nibble_of x i * 2 ^ (4 * i) ≤ x) × (x - nibble_of x i * 2 ^ (4 * i) + n * 2 ^ (4 * i) ≡ replaced x n i)
replaced_is x n zero = (omega arith, omega arith)
replaced_is x n (suc i) =
    let a : nibble_of (x / 16) i * 2 ^ (4 * suc i) ≡ 16 * (nibble_of (x / 16) i * 2 ^ (4 * i)) = scaled (nibble_of (x / 16) i) (2 ^ (4 * i)) (2 ^ (4 * suc i)) (power i) in
    let b : n * 2 ^ (4 * suc i) ≡ 16 * (n * 2 ^ (4 * i)) = scaled n (2 ^ (4 * i)) (2 ^ (4 * suc i)) (power i) in
    let rest = replaced_is (x / 16) n i in
    from_rest x (nibble_of (x / 16) i * 2 ^ (4 * i)) (n * 2 ^ (4 * i)) (nibble_of (x / 16) i * 2 ^ (4 * suc i)) (n * 2 ^ (4 * suc i)) (replaced (x / 16) n i) a b rest.0 rest.1
  where
    from_rest : (x p q r s t : ℕ) → r ≡ 16 * p → s ≡ 16 * q → p ≤ x / 16 → x / 16 - p + q ≡ t → (r ≤ x) × (x - r + s ≡ x % 16 + 16 * t)
    from_rest x p q r s t a b l e = (omega arith, omega arith)

replaced_below : (k x n i : ℕ) → i < k → n < 16 → x < 16 ^ k → replaced x n i < 16 ^ k
replaced_below zero x n i lt small low = absurd (omega arith)
replaced_below (suc k) x n zero lt small low = let p : 16 ^ suc k ≡ 16 ^ k * 16 = pow-suc 16 k in omega arith
replaced_below (suc k) x n (suc i) lt small low =
    let p : 16 ^ suc k ≡ 16 ^ k * 16 = pow-suc 16 k in
    let l : replaced (x / 16) n i < 16 ^ k = replaced_below k (x / 16) n i (omega arith) small (omega arith) in
    omega arith

pub replaced_fits : (x n i : ℕ) → i < 16 → n < 16 → x < 2 ^ 64 → replaced x n i < 2 ^ 64
replaced_fits x n i lt small low = replaced_below 16 x n i lt small low

-- the code's sum, with the old nibble where it is
module _ (x nib n i : ℕ) (is : nib ≡ nibble_of x i) (lt : i < 16) (small : n < 16) (low : x < 2 ^ 64) where
  abbrev old : ℕ
  old = nib * 2 ^ (4 * i)

  abbrev new : ℕ
  new = n * 2 ^ (4 * i)

  parts : (old ≤ x) × (x - old + new ≡ replaced x n i)
  parts = subst (λ (z : ℕ). (z * 2 ^ (4 * i) ≤ x) × (x - z * 2 ^ (4 * i) + n * 2 ^ (4 * i) ≡ replaced x n i)) (sym is) (replaced_is x n i)

  pub old_below : old % 18446744073709551616 ≤ x
  old_below = from_old x old parts.0
    where
      from_old : (x a : ℕ) → a ≤ x → a % 18446744073709551616 ≤ x
      from_old x a l = omega arith

  pub sum_is : x - old % 18446744073709551616 + new % 18446744073709551616 ≡ replaced x n i
  sum_is = from_parts x old new (replaced x n i) low parts.0 parts.1 (replaced_fits x n i lt small low)
    where
      from_parts : (x a b r : ℕ) → x < 18446744073709551616 → a ≤ x → x - a + b ≡ r → r < 18446744073709551616 → x - a % 18446744073709551616 + b % 18446744073709551616 ≡ r
      from_parts x a b r l m e f = omega arith

  pub sum_fits : x - old % 18446744073709551616 + new % 18446744073709551616 < 18446744073709551616
  sum_fits = subst (λ (z : ℕ). z < 18446744073709551616) (sym sum_is) (replaced_fits x n i lt small low)

split : (g r : ℕ) → g < 16 → ((g + 16 * r) % 16 ≡ g) × ((g + 16 * r) / 16 ≡ r)
split g r small = (omega arith, omega arith)

next_eqb : (j k : ℕ) → eqb (suc j) (suc k) ≡ eqb j k
next_eqb j k = dite (ℕ_discrete j k)
    (λ s. eq-eqb (suc j) (suc k) (ap suc s) ∙ sym (eq-eqb j k s))
    (λ n. ne_eqb (suc j) (suc k) (λ s. n (omega arith)) ∙ sym (ne_eqb j k n))

pub replaced_nibble : (x n i j : ℕ) → n < 16 → nibble_of (replaced x n i) j ≡ (if eqb j i then n else nibble_of x j)
replaced_nibble x n zero zero small =
    let e : (x / 16 * 16 + n) % 16 ≡ n = omega arith in
    e ∙ ap (λ (b : Bool). if b then n else x % 16) (sym (eq-eqb 0 0 refl))
replaced_nibble x n zero (suc j) small =
    let e : (x / 16 * 16 + n) / 16 ≡ x / 16 = omega arith in
    ap (λ (z : ℕ). nibble_of z j) e ∙ ap (λ (b : Bool). if b then n else nibble_of (x / 16) j) (sym (ne_eqb (suc j) 0 (λ s. omega arith)))
replaced_nibble x n (suc i) zero small =
    (split (x % 16) (replaced (x / 16) n i) (omega arith)).0 ∙ ap (λ (b : Bool). if b then n else x % 16) (sym (ne_eqb 0 (suc i) (λ s. omega arith)))
replaced_nibble x n (suc i) (suc j) small =
    ap (λ (z : ℕ). nibble_of z j) (split (x % 16) (replaced (x / 16) n i) (omega arith)).1
    ∙ (replaced_nibble (x / 16) n i j small ∙ ap (λ (b : Bool). if b then n else nibble_of (x / 16) j) (sym (next_eqb j i)))

-- ---- nibbles that are all the same

repeated_nibble : (s n i : ℕ) → s < 16 → i < n → nibble_of (repeated s n) i ≡ s
repeated_nibble s zero i small lt = absurd (omega arith)
repeated_nibble s (suc n) zero small lt = omega arith
repeated_nibble s (suc n) (suc i) small lt =
    let e : (s + 16 * repeated s n) / 16 ≡ repeated s n = omega arith in
    ap (λ (z : ℕ). nibble_of z i) e ∙ repeated_nibble s n i small (omega arith)

pub all_same : (s : ℕ) → s < 16 → IsFilledWith (all_nibbles s) s
unfolding all_nibbles
all_same s small i lt = repeated_nibble s 16 i small lt

pub as_product : (s : ℕ) → s * 1229782938247303441 ≡ all_nibbles s
unfolding all_nibbles
as_product s = omega arith

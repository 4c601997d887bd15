-- A word from four lanes.
use Rattle.std.proofs.Common.{◌≡◌, ℕ, zero, suc, ◌+◌, ◌*◌, ◌/◌, ◌%◌, ◌^◌, ◌<◌, Bool, true, false, ap, ◌∙◌, arith, if◌then◌else◌}
use Rattle.order_core.specs.declared.course.Op.{Op}
use Rattle.order_core.specs.Lanes.{lane, covers, Lands}

abbrev pub joined_lanes : ℕ → ℕ → ℕ → ℕ → ℕ
joined_lanes a b c d = a + 65536 * b + 4294967296 * c + 281474976710656 * d

lane_zero : (a b c d : ℕ) → a < 65536 → b < 65536 → c < 65536 → d < 65536 → joined_lanes a b c d / 1 % 65536 ≡ a
lane_zero a b c d p q r s = omega arith

lane_one : (a b c d : ℕ) → a < 65536 → b < 65536 → c < 65536 → d < 65536 → joined_lanes a b c d / 65536 % 65536 ≡ b
lane_one a b c d p q r s = omega arith

lane_two : (a b c d : ℕ) → a < 65536 → b < 65536 → c < 65536 → d < 65536 → joined_lanes a b c d / 4294967296 % 65536 ≡ c
lane_two a b c d p q r s = omega arith

lane_three : (a b c d : ℕ) → a < 65536 → b < 65536 → c < 65536 → d < 65536 → joined_lanes a b c d / 281474976710656 % 65536 ≡ d
lane_three a b c d p q r s = omega arith

-- lane j of the word that an operation leaves
abbrev pub picked : Op → ℕ → ℕ → ℕ
picked a x j = if covers a.lanes j then lane j a.value else lane j x

small : (a : Op) (x j : ℕ) → picked a x j < 65536
small a x j = by (covers a.lanes j)
  where
    by : (b : Bool) → (if b then lane j a.value else lane j x) < 65536
    by true = omega arith
    by false = omega arith

abbrev pub landed : Op → ℕ → ℕ
landed a x = joined_lanes (picked a x 0) (picked a x 1) (picked a x 2) (picked a x 3)

lane_of : (a : Op) (x j : ℕ) → j < 4 → lane j (landed a x) ≡ picked a x j
lane_of a x zero l = lane_zero (picked a x 0) (picked a x 1) (picked a x 2) (picked a x 3) (small a x 0) (small a x 1) (small a x 2) (small a x 3)
lane_of a x (suc zero) l = lane_one (picked a x 0) (picked a x 1) (picked a x 2) (picked a x 3) (small a x 0) (small a x 1) (small a x 2) (small a x 3)
lane_of a x (suc (suc zero)) l = lane_two (picked a x 0) (picked a x 1) (picked a x 2) (picked a x 3) (small a x 0) (small a x 1) (small a x 2) (small a x 3)
lane_of a x (suc (suc (suc zero))) l = lane_three (picked a x 0) (picked a x 1) (picked a x 2) (picked a x 3) (small a x 0) (small a x 1) (small a x 2) (small a x 3)
lane_of a x (suc (suc (suc (suc j)))) l = absurd (omega arith)

-- a word that has in each lane what the operation leaves there
pub lands : (a : Op) (x : ℕ) → Lands a x (landed a x)
lands a x j l = (
  (λ cov. lane_of a x j l ∙ ap (λ (b : Bool). if b then lane j a.value else lane j x) cov),
  (λ cov. lane_of a x j l ∙ ap (λ (b : Bool). if b then lane j a.value else lane j x) cov),
)

-- two words of four lanes with the same lanes are one
pub same_word : (x y : ℕ) → x < 2 ^ 64 → y < 2 ^ 64 → ((j : ℕ) → j < 4 → lane j x ≡ lane j y) → x ≡ y
same_word x y p q same =
    let a : x / 1 % 65536 ≡ y / 1 % 65536 = same 0 (omega arith) in
    let b : x / 65536 % 65536 ≡ y / 65536 % 65536 = same 1 (omega arith) in
    let c : x / 4294967296 % 65536 ≡ y / 4294967296 % 65536 = same 2 (omega arith) in
    let d : x / 281474976710656 % 65536 ≡ y / 281474976710656 % 65536 = same 3 (omega arith) in
    omega arith

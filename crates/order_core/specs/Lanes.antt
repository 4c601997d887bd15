-- The four lanes of a word.
use Rattle.std.specs.Prelude.{◌≡◌, ℕ, ◌*◌, ◌/◌, ◌%◌, ◌^◌, ◌<◌, Bool, true, false, ◌==◌}
use Rattle.pl_base.specs.declared.layout.TheConstants.{LANES}
use Rattle.order_core.specs.declared.course.Op.{Op}

-- lane j of a word: 16 bits
abbrev pub lane : ℕ → ℕ → ℕ
lane j n = n / 2 ^ (16 * j) % 2 ^ 16

-- lane j is among the lanes
unfoldable pub covers : ℕ → ℕ → Bool
covers lanes j = lanes / 2 ^ j % 2 == 1

-- both are on one word and share a lane
abbrev pub Meets : Op → Op → Type 0
Meets a b = (a.word ≡ b.word) × (j : ℕ) × (covers a.lanes j ≡ true) × (covers b.lanes j ≡ true)

-- the word x holds the operation's value in its lanes
abbrev pub HasValueOf : Op → ℕ → Type 0
HasValueOf o x = (j : ℕ) → j < LANES → covers o.lanes j ≡ true → lane j x ≡ lane j o.value

-- n is the word x with the value of o in its lanes
abbrev pub Lands : Op → ℕ → ℕ → Type 0
Lands o x n = (j : ℕ) → j < LANES
    → (covers o.lanes j ≡ true → lane j n ≡ lane j o.value) × (covers o.lanes j ≡ false → lane j n ≡ lane j x)

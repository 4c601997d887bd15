-- What a write puts.
use Rattle.std.specs.Prelude.{◌≡◌, ℕ, ◌-◌, ◌^◌, ◌<◌, true, false, bit_xor}
use Rattle.pl_base.specs.declared.layout.TheConstants.{LANES}
use Rattle.order_core.specs.declared.course.Course.{Course}
use Rattle.order_core.specs.declared.course.Operation.{Operation}
use Rattle.order_core.specs.Lanes.{lane, covers, HasValueOf}
use Rattle.order_core.specs.Course.{lane_before}
use Rattle.guard_table.specs.declared.put.Put.{Put}
use Rattle.guard_table.specs.declared.put.Put.TheVariants.{Store, Flip}

-- the lanes of a whole word
abbrev pub all_lanes : ℕ
all_lanes = 2 ^ LANES - 1

-- the bits in which the lanes of the write at p differ before and after it, and no others
abbrev pub IsFlip : Course → ℕ → Operation → ℕ → Type 0
IsFlip c p a bits = (j : ℕ) → j < LANES
    → (covers a.what.lanes j ≡ true → lane j bits ≡ bit_xor (lane_before c p a.what.word j) (lane j a.what.value))
    × (covers a.what.lanes j ≡ false → lane j bits ≡ 0)

-- it puts what the sequential run has after the write at p: a store is for a write of all lanes
abbrev pub IsPutOf : Course → ℕ → Operation → Put → Type 0
IsPutOf c p a (Store value) = (a.what.lanes ≡ all_lanes) × HasValueOf a.what value
IsPutOf c p a (Flip bits) = IsFlip c p a bits

-- the word x after it
abbrev pub after_put : Put → ℕ → ℕ
after_put (Store value) x = value
after_put (Flip bits) x = bit_xor x bits

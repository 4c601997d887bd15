-- Numbers whose second bit is set or cleared.
use Rattle.std.specs.Prelude.{◌≡◌, ℕ, ◌+◌, ◌*◌, ◌/◌, ◌%◌, ◌<◌}
use Rattle.std.proofs.Common.{arith}

-- the first bit stays
pub set_parity : (nibble : ℕ) → (nibble % 2 + 2 + nibble / 4 * 4) % 2 ≡ nibble % 2
set_parity nibble = omega arith

pub cleared_parity : (nibble : ℕ) → (nibble % 2 + nibble / 4 * 4) % 2 ≡ nibble % 2
cleared_parity nibble = omega arith

-- a number of three bits stays one
pub set_below : (nibble : ℕ) → nibble < 8 → nibble % 2 + 2 + nibble / 4 * 4 < 8
set_below nibble lt = omega arith

pub cleared_below : (nibble : ℕ) → nibble < 8 → nibble % 2 + nibble / 4 * 4 < 8
cleared_below nibble lt = omega arith

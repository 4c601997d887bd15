use Rattle.std.specs.Prelude.{◌≡◌, ℕ, ◌+◌, ◌-◌, ◌*◌, ◌/◌, ◌%◌, ◌<◌, ◌≤◌, ◌⊎◌}
use Rattle.pl_base.specs.declared.layout.TheConstants.{HEAP_START, HEAP_END, UNIT_BYTES, MAX_CALL_BYTES}

-- the bytes that a block of an asked size takes: the size rounded up to whole units
abbrev pub taken : ℕ → ℕ
taken size = (size + (UNIT_BYTES - 1)) / UNIT_BYTES * UNIT_BYTES

-- two stretches of bytes have a byte in common
abbrev pub Meet : ℕ → ℕ → ℕ → ℕ → Type 0
Meet at length other other_length = (at < other + other_length) × (other < at + length)

-- a place for a block of that size: a multiple of a unit at which it lies in the heap and meets no live block
pub record IsPlace (IsLive : ℕ → ℕ → Type 0) (size at : ℕ) : Type 0 where
  pub aligned : at % UNIT_BYTES ≡ 0
  pub from : HEAP_START ≤ at
  pub within : at + taken size ≤ HEAP_END
  pub clear : (other other_size : ℕ) → IsLive other other_size → Meet at (taken size) other (taken other_size) → ⊥

-- the lowest of these places
pub record IsFirstFit (IsLive : ℕ → ℕ → Type 0) (size at : ℕ) : Type 0 where
  pub place : IsPlace IsLive size at
  pub lowest : (lower : ℕ) → lower < at → IsPlace IsLive size lower → ⊥

-- no block of that size is given
abbrev pub IsRefused : (ℕ → ℕ → Type 0) → ℕ → Type 0
IsRefused IsLive size = (size ≡ 0) ⊎ ((MAX_CALL_BYTES < size) ⊎ ((at : ℕ) → IsPlace IsLive size at → ⊥))

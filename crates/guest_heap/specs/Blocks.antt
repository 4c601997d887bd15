use Rattle.std.specs.Prelude.{◌≡◌, ◌==◌, ℕ, zero, suc, ◌-◌, ◌/◌, ◌%◌, ◌&&◌, if◌then◌else◌, List, Option, Some, None, slice_index, nat_le}
use Rattle.pl_base.specs.declared.layout.TheConstants.{HEAP_START, UNIT_BYTES}

-- a size in the table, where 0 says that no block starts there
abbrev pub size_of : ℕ → Option ℕ
size_of zero = None
size_of (suc size) = Some (suc size)

-- the asked size of the live block that starts at each address, where one does
unfoldable pub asked : List ℕ → ℕ → Option ℕ
asked sizes address =
    if nat_le HEAP_START address && (address % UNIT_BYTES == 0)
    then size_of (slice_index sizes ((address - HEAP_START) / UNIT_BYTES))
    else None

-- a block is live: it starts there, and was asked with that size
abbrev pub IsLive : List ℕ → ℕ → ℕ → Type 0
IsLive sizes address size = asked sizes address ≡ Some size

-- the live blocks after the one at an address was put there, or taken away
abbrev pub changed : (ℕ → Option ℕ) → ℕ → Option ℕ → ℕ → Option ℕ
changed blocks address block other = if other == address then block else blocks other

-- What the slots of a filter tell.
use Rattle.std.specs.Prelude.{ℕ, ◌/◌, ◌%◌, ◌==◌, ◌&&◌, Bool, false, List, Option, Some, None, replicate, slice_index_or, slice_set, if◌then◌else◌}
use Rattle.idem_filter.specs.declared.filter.Check.{Check}
use Rattle.idem_filter.specs.declared.filter.TheConstants.{SLOTS, WORD_BYTES}

-- a check or nothing, for each slot
abbrev pub Slots : Type 0
Slots = List (Option Check)

abbrev pub empty : Slots
empty = replicate SLOTS None

-- the slot of an address
abbrev pub slot_of : ℕ → ℕ
slot_of addr = addr / WORD_BYTES % SLOTS

-- it is the check of so many bytes from this address on
abbrev pub is_check : Option Check → ℕ → ℕ → Bool
is_check None addr width = false
is_check (Some check) addr width = (check.addr == addr) && (check.width == width)

-- the slot of the address holds this check
abbrev pub hits : Slots → ℕ → ℕ → Bool
hits slots addr width = is_check (slice_index_or slots (slot_of addr) None) addr width

-- the slots after an entry
abbrev pub entered : Slots → ℕ → ℕ → Slots
entered slots addr width = slice_set slots (slot_of addr) (Some (record { addr = addr; width = width }))

-- which checks hit after an entry: of its own slot the entry alone counts
abbrev pub hits_after : Slots → ℕ → ℕ → ℕ → ℕ → Bool
hits_after slots addr width other bytes =
    if slot_of addr == slot_of other then is_check (Some (record { addr = addr; width = width })) other bytes
    else hits slots other bytes

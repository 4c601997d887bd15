-- What the slots of a look-aside tell.
use Rattle.std.specs.Prelude.{ℕ, ◌%◌, ◌==◌, List, Option, Some, None, replicate, slice_index_or, slice_set, if◌then◌else◌}
use Rattle.meta_lookaside.specs.declared.look_aside.Entry.{Entry}
use Rattle.meta_lookaside.specs.declared.look_aside.TheConstants.{SLOTS}

-- an entry or nothing, for each slot
abbrev pub Slots : Type 0
Slots = List (Option Entry)

abbrev pub empty : Slots
empty = replicate SLOTS None

-- the slot of a page
abbrev pub slot_of : ℕ → ℕ
slot_of page = page % SLOTS

-- the frame that an entry has for a page: none where it is another page's
abbrev pub frame_in : Option Entry → ℕ → Option ℕ
frame_in None page = None
frame_in (Some entry) page = if entry.page == page then Some entry.frame else None

-- the frame that the page's slot has for it
abbrev pub found : Slots → ℕ → Option ℕ
found slots page = frame_in (slice_index_or slots (slot_of page) None) page

-- the slots after an entry
abbrev pub entered : Slots → ℕ → ℕ → Slots
entered slots page frame = slice_set slots (slot_of page) (Some (record { page = page; frame = frame }))

-- what is found for a page after an entry: of its own slot the entry alone counts
abbrev pub found_after : Slots → ℕ → ℕ → ℕ → Option ℕ
found_after slots page frame other =
    if slot_of page == slot_of other then frame_in (Some (record { page = page; frame = frame })) other
    else found slots other

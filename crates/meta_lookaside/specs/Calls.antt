-- The calls that change a look-aside, the latest first.
use Rattle.std.specs.Prelude.{ℕ, ◌==◌, List, [], ◌∷◌, Option, Some, None, if◌then◌else◌}
use Rattle.meta_lookaside.specs.declared.look_aside.Entry.{Entry}
use Rattle.meta_lookaside.specs.LookAside.{Slots, empty, entered, slot_of}

pub data Call : Type 0 where
  Enter : (page frame : ℕ) → Call
  Flush : Call

-- the slots after the calls
abbrev pub after : List Call → Slots
after [] = empty
after (Enter page frame ∷ calls) = entered (after calls) page frame
after (Flush ∷ calls) = empty

-- what was entered last into a slot, if nothing was flushed since
abbrev pub last_entry : List Call → ℕ → Option Entry
last_entry [] slot = None
last_entry (Enter page frame ∷ calls) slot =
    if slot_of page == slot then Some (record { page = page; frame = frame }) else last_entry calls slot
last_entry (Flush ∷ calls) slot = None

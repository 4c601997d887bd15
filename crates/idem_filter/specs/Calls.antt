-- The calls that change a filter, the latest first.
use Rattle.std.specs.Prelude.{ℕ, ◌==◌, List, [], ◌∷◌, Option, Some, None, if◌then◌else◌}
use Rattle.idem_filter.specs.declared.filter.Check.{Check}
use Rattle.idem_filter.specs.Filter.{Slots, empty, entered, slot_of}

pub data Call : Type 0 where
  Enter : (addr width : ℕ) → Call
  Flush : Call

-- the slots after the calls
abbrev pub after : List Call → Slots
after [] = empty
after (Enter addr width ∷ calls) = entered (after calls) addr width
after (Flush ∷ calls) = empty

-- what was entered last into a slot, if nothing was flushed since
abbrev pub last_check : List Call → ℕ → Option Check
last_check [] slot = None
last_check (Enter addr width ∷ calls) slot =
    if slot_of addr == slot then Some (record { addr = addr; width = width }) else last_check calls slot
last_check (Flush ∷ calls) slot = None

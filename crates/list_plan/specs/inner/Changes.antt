-- What becomes of the nibbles of a range.
use Rattle.std.specs.Prelude.{ℕ}
use Rattle.lifeguard.specs.Rules.{Rules}
use Rattle.lifeguard.specs.Plain.{mask_bit}
use Rattle.list_plan.specs.declared.blocks.Change.{Change}
use Rattle.list_plan.specs.declared.blocks.Change.TheVariants.{Store, Range}

-- what becomes of the old nibble of byte i of the range
abbrev pub changed_nibble : Rules → Change → ℕ → ℕ → ℕ
changed_nibble rules (Store mask) i old = rules.store_nibble old (mask_bit mask i)
changed_nibble rules (Range kind) i old = rules.range_state kind old

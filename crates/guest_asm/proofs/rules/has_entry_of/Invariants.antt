use Rattle.std.proofs.Common.{◌≡◌, drop}
use Rattle.std.specs.List.{list_any}
use Rattle.guest_asm.specs.Rules.{statements_in, is_entry_of}
use Rattle.guest_asm.proofs.rules.has_entry_of.Given as goal

abbrev pub invariant-rows : goal.invariant-rows
invariant-rows l = list_any (is_entry_of l.hart) (statements_in (drop l.row-index l.rows)) ≡ list_any (is_entry_of l.hart) (statements_in l.rows)

use Rattle.std.proofs.Common.{◌≡◌, drop}
use Rattle.std.specs.List.{list_any}
use Rattle.guest_asm.specs.Rules.{statements_in, is_steps}
use Rattle.guest_asm.proofs.rules.has_steps.Given as goal

abbrev pub invariant-rows : goal.invariant-rows
invariant-rows l = list_any is_steps (statements_in (drop l.row-index l.rows)) ≡ list_any is_steps (statements_in l.rows)

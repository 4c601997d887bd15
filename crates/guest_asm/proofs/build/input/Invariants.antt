use Rattle.std.proofs.Common.{◌≡◌, ◌++◌, drop}
use Rattle.std.specs.List.{flat_map}
use Rattle.guest_asm.specs.Rules.{statements_in}
use Rattle.guest_asm.specs.Jobs.{input_in}
use Rattle.guest_asm.proofs.build.input.Given as goal

abbrev pub invariant-rows : goal.invariant-rows
invariant-rows l = l.bytes.items ++ flat_map input_in (statements_in (drop l.row-index l.rows)) ≡ flat_map input_in (statements_in l.rows)

use Rattle.std.proofs.Common.{drop, map}
use Rattle.guest_asm.specs.Jobs.{placed}
use Rattle.guest_asm.specs.Scans.{defined}
use Rattle.guest_asm.proofs.Building.{Built}
use Rattle.guest_asm.proofs.build.second_pass.Given as goal

abbrev pub invariant-rows : goal.invariant-rows
invariant-rows l = Built (defined l.labels) (map placed l.rows) (map placed (drop l.row-index l.rows)) l.words.items

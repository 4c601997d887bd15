use Rattle.std.proofs.Common.{◌≡◌, map, take}
use Rattle.guest_asm.specs.Jobs.{placed}
use Rattle.guest_asm.specs.WordLines.{lines_of_rows}
use Rattle.guest_asm.proofs.read.word_lines.Given as goal

abbrev pub invariant-rows : goal.invariant-rows
invariant-rows l = l.lines.items ≡ lines_of_rows (map placed (take l.row-index l.rows))

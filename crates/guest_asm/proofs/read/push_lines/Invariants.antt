use Rattle.std.proofs.Common.{◌≡◌, ◌++◌}
use Rattle.std.specs.Prelude.{replicate}
use Rattle.guest_asm.proofs.read.push_lines.Given as goal

abbrev pub invariant-words : goal.invariant-words
invariant-words l = l.lines.items ≡ l.initial.lines.items ++ replicate l.done l.row.line

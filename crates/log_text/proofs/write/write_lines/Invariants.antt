use Rattle.std.proofs.Common.{◌≡◌, ◌++◌, map, take}
use Rattle.std.specs.Prelude.{string_bytes}
use Rattle.log_grammar.specs.Spelling.{row_of, entries_text}
use Rattle.log_text.proofs.write.write_lines.Given as goal

-- the lines so far
abbrev pub invariant-lines : goal.invariant-lines
invariant-lines l = string_bytes l.out ≡ string_bytes l.initial.out ++ entries_text (map row_of (take l.i l.lines))

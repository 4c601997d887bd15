use Rattle.std.proofs.Common.{◌≡◌, take}
use Rattle.std.specs.Prelude.{string_bytes}
use Rattle.pl_event.specs.declared.log.Log.{Log}
use Rattle.log_grammar.specs.Spelling.{log_spelling}
use Rattle.run_record.specs.Writing.{with_lines}
use Rattle.run_record.proofs.written.add_lines.Given as goal

abbrev pub invariant-loop-line : goal.invariant-loop-line
invariant-loop-line l = (log : Log) → string_bytes l.initial.text ≡ log_spelling log → string_bytes l.text ≡ log_spelling (with_lines log (take l.line-index l.lines))

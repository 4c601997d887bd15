use Rattle.std.proofs.Common.{◌≡◌, ◌++◌, drop}
use Rattle.std.specs.Prelude.{string_bytes}
use Rattle.whence_text.specs.Text.{all_lines}
use Rattle.whence_text.proofs.text.write_answers.Given as goal

abbrev pub invariant-each : goal.invariant-each
invariant-each l = string_bytes l.out ++ all_lines l.lined (drop l.answer-index l.answers) ≡ string_bytes l.initial.out ++ all_lines l.lined l.answers

use Rattle.std.proofs.Common.{sym, ap, ◌∙◌, ◌++◌, List, ℕ}
use Rattle.log_grammar.specs.Spelling.{entry_text, line_text, row_of}
use Rattle.log_text.proofs.WriteLemmas.{spelling_more}
use Rattle.log_text.proofs.grow.add_line.Goals as goal

pub returns : goal.returns
returns c log before =
    c.in_ok-write_line.ensures ∙ (ap (λ (t : List ℕ). t ++ line_text (entry_text (row_of c.args.line.now))) before ∙ sym (spelling_more log c.args.line.now))

use Rattle.std.proofs.Common.{◌∙◌, ◌++◌, ap, ℕ}
use Rattle.std.specs.Option.{option_copied}
use Rattle.guest_asm.specs.Lines.{shown}
use Rattle.guest_asm.specs.Rules.{label_with}
use Rattle.guest_asm.specs.Scans.{defined}
use Rattle.guest_asm.proofs.Scanning.{keeps-push}
use Rattle.guest_asm.proofs.scan.Scan.add.Goals as goal

pub returns-clause-kept : goal.returns-clause-kept
returns-clause-kept c = λ before at keeps.
    keeps-push before (shown c.args.line) c.args.number c.args.self.now _ at keeps
    c.in_ok-push_row.ensures.rows
    c.after_line-self.ensures.value
    (c.in_ok-define.ensures ∙ ap (λ (a : ℕ). defined c.args.self.now.labels ++ label_with a (option_copied c.args.line.label)) c.address.ensures)
    c.after_line-self.ensures.words
    c.after_line-self.ensures.bytes
    (c.in_ok-push_row.ensures.valid keeps.valid)

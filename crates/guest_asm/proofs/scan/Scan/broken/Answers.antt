use Rattle.std.proofs.Common.{◌∙◌, ap, Bool, List}
use Rattle.guest_asm.specs.declared.scan.Row.{Row}
use Rattle.guest_asm.specs.Lines.{shown}
use Rattle.guest_asm.specs.Rules.{statements_in, broken_at}
use Rattle.guest_asm.proofs.Scanning.{broken-kept}
use Rattle.guest_asm.proofs.scan.Scan.broken.Goals as goal

pub returns : goal.returns
returns c = λ before keeps.
    c.broken_at.ensures
    ∙ ap (λ (rs : List Row). broken_at (statements_in rs) c.args.self.now.place c.is_defined-again.result (shown c.args.line.now)) c.as_slice.ensures.value
    ∙ ap (λ (t : Bool). broken_at (statements_in c.args.self.now.rows.items) c.args.self.now.place t (shown c.args.line.now)) c.is_defined-again.ensures
    ∙ broken-kept before c.args.self.now (shown c.args.line.now) keeps

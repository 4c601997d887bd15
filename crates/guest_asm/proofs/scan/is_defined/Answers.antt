use Rattle.std.proofs.Common.{◌∙◌, ap, sym, ℕ, List, Option}
use Rattle.std.specs.Borrow.{Bor}
use Rattle.std.specs.Option.{is_some, option_copied}
use Rattle.guest_asm.specs.Rules.{is_again}
use Rattle.guest_asm.specs.Scans.{defined}
use Rattle.guest_asm.proofs.Labels.{looked-up, some-copied}
use Rattle.guest_asm.proofs.scan.is_defined.Goals as goal

pub returns-in-Some : goal.returns-in-Some
returns-in-Some c =
    c.is_some.ensures ∙ some-copied c.get.result ∙ ap is_some (c.get.ensures.value ∙ looked-up c.args.labels.now c.in-Some.name.now)
    ∙ ap (λ (o : Option (Bor (List ℕ))). is_again (defined c.args.labels.now) (option_copied o)) (sym c.in-Some.is)

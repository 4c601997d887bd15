use Rattle.std.proofs.Common.{◌∙◌, ap, sym, ℕ, List, Option}
use Rattle.std.specs.Borrow.{Bor}
use Rattle.std.specs.Option.{option_copied}
use Rattle.guest_asm.specs.Faults.{target}
use Rattle.guest_asm.specs.Scans.{defined}
use Rattle.guest_asm.proofs.Labels.{looked-up}
use Rattle.guest_asm.proofs.build.target.Goals as goal

pub returns-in-Some : goal.returns-in-Some
returns-in-Some c =
    c.copied.ensures ∙ c.get.ensures.value ∙ looked-up c.args.labels.now c.in-Some.name.now
    ∙ ap (λ (o : Option (Bor (List ℕ))). target (defined c.args.labels.now) (option_copied o)) (sym c.in-Some.is)

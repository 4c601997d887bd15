use Rattle.std.proofs.Common.{◌≡◌, not, drop}
use Rattle.std.specs.Prelude.{find, ◌==◌}
use Rattle.lifeguard.specs.Shadow.{masks_of}
use Rattle.lifeguard.proofs.masks.first_marked.Given as goal

abbrev pub invariant-loop-reg : goal.invariant-loop-reg
invariant-loop-reg l =
    find (λ register. not (masks_of l.masks l.hart register == 0)) (drop l.reg-index l.regs)
    ≡ find (λ register. not (masks_of l.masks l.hart register == 0)) l.regs

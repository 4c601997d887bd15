use Rattle.std.proofs.Common.{◌≡◌, ◌+◌, ◌-◌}
use Rattle.std.specs.Prelude.{find}
use Rattle.lifeguard.specs.Checks.{is_bad}
use Rattle.lifeguard.specs.State.{nibble_at, span}
use Rattle.lifeguard.specs.Shadow.{bytes_of}
use Rattle.lifeguard.proofs.cells.first_bad.Given as goal

abbrev pub invariant-loop-at : goal.invariant-loop-at
invariant-loop-at g l =
    find (λ a. is_bad (g.L.Lifeguard.rules l.guard) l.check (nibble_at (bytes_of l.cells) a)) (span l.at (l.addr + l.len - l.at))
    ≡ find (λ a. is_bad (g.L.Lifeguard.rules l.guard) l.check (nibble_at (bytes_of l.cells) a)) (span l.addr l.len)

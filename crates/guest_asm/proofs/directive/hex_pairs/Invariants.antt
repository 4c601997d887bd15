use Rattle.std.proofs.Common.{◌≡◌, ◌++◌, length}
use Rattle.std.specs.Option.{option_map}
use Rattle.guest_asm.specs.Statements.{hex_pairs}
use Rattle.guest_asm.proofs.directive.hex_pairs.Given as goal

-- the bytes so far and those of the digits that are left are all of them
abbrev pub invariant-pairs : goal.invariant-pairs
invariant-pairs l = option_map (λ more. l.bytes.items ++ more) (hex_pairs l.rest) ≡ hex_pairs l.text

abbrev pub decreases-pairs : goal.decreases-pairs
decreases-pairs l = length l.rest

use Rattle.std.proofs.Common.{◌≡◌, ◌++◌, drop, map}
use Rattle.std.specs.Option.{option_map}
use Rattle.guest_asm.specs.Codes.{texts}
use Rattle.guest_asm.specs.Numbers.{number_in}
use Rattle.guest_asm.specs.Statements.{all_some}
use Rattle.guest_asm.proofs.directive.all_numbers.Given as goal

-- the numbers so far and those of the parts that are left are all of them
abbrev pub invariant-parts : goal.invariant-parts
invariant-parts l = option_map (λ ns. l.numbers.items ++ ns) (all_some (map number_in (texts (drop l.part-index l.parts)))) ≡ all_some (map number_in (texts l.parts))

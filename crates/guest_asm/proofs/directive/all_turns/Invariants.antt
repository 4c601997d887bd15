use Rattle.std.proofs.Common.{◌≡◌, ◌++◌, ◌∷◌, drop, map}
use Rattle.std.specs.Option.{option_map}
use Rattle.guest_asm.specs.Codes.{texts}
use Rattle.guest_asm.specs.Statements.{all_some, turn_in}
use Rattle.guest_asm.proofs.directive.all_turns.Given as goal

-- the turns so far and those of the parts that are left are all of them
abbrev pub invariant-parts : goal.invariant-parts
invariant-parts l = option_map (λ ts. l.turns.items ++ ts) (all_some (map turn_in (texts (drop l.part-index l.others)))) ≡ all_some (map turn_in (l.first ∷ texts l.others))

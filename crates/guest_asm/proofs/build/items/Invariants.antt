use Rattle.std.proofs.Common.{◌≡◌, ◌++◌, drop, map}
use Rattle.guest_asm.specs.Jobs.{item_of}
use Rattle.guest_asm.proofs.build.items.Given as goal

abbrev pub invariant-turns : goal.invariant-turns
invariant-turns l = l.items.items ++ map item_of (drop l.turn-index l.turns) ≡ map item_of l.turns

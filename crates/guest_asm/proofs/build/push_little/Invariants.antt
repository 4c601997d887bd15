use Rattle.std.proofs.Common.{◌≡◌, ◌++◌, drop, w32}
use Rattle.std.specs.List.{flat_map}
use Rattle.std.specs.Int.{to_le_bytes}
use Rattle.guest_asm.proofs.build.push_little.Given as goal

abbrev pub invariant-numbers : goal.invariant-numbers
invariant-numbers l = l.bytes.items ++ flat_map (λ n. to_le_bytes w32 n.bits) (drop l.number-index l.numbers) ≡ l.fn.bytes.items ++ flat_map (λ n. to_le_bytes w32 n.bits) l.numbers

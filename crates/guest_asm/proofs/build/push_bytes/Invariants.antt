use Rattle.std.proofs.Common.{◌≡◌, ◌++◌, drop, map}
use Rattle.guest_asm.proofs.build.push_bytes.Given as goal

abbrev pub invariant-numbers : goal.invariant-numbers
invariant-numbers l = l.bytes.items ++ map (λ n. n.bits) (drop l.number-index l.numbers) ≡ l.fn.bytes.items ++ map (λ n. n.bits) l.numbers

use Rattle.std.proofs.Common.{◌≡◌}
use Rattle.std.specs.List.{range_with_len}
use Rattle.guest_asm.proofs.generator.counting.Given as goal

abbrev pub invariant-bytes : goal.invariant-bytes
invariant-bytes l = l.bytes.items ≡ range_with_len 0 l.byte

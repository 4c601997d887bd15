use Rattle.std.proofs.Common.{◌≡◌, replicate, None}
use Rattle.guest_mem.proofs.memory.PagedMem.new.Given as goal

abbrev pub invariant-loop : goal.invariant-loop
invariant-loop l = l.pages.items ≡ replicate l.counter None

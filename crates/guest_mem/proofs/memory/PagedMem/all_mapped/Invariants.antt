use Rattle.std.proofs.Common.{◌≡◌, ℕ, ◌<◌, ◌≤◌, true}
use Rattle.guest_mem.specs.Memory.{mapped}
use Rattle.guest_mem.proofs.memory.PagedMem.all_mapped.Given as goal

abbrev pub invariant-loop-number : goal.invariant-loop-number
invariant-loop-number l = (page : ℕ) → l.first ≤ page → page < l.number → mapped l.self page ≡ true

use Rattle.std.proofs.Common.{◌≡◌, ℕ, ◌<◌, ◌≤◌, false}
use Rattle.guest_mem.specs.Memory.{mapped}
use Rattle.guest_mem.proofs.memory.PagedMem.any_mapped.Given as goal

abbrev pub invariant-loop-number : goal.invariant-loop-number
invariant-loop-number l = (page : ℕ) → l.first ≤ page → page < l.number → mapped l.self page ≡ false

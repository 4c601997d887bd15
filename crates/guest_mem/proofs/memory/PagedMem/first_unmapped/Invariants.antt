use Rattle.std.proofs.Common.{ℕ, ◌-◌, ◌<◌, ◌≤◌, ◌^◌, IsSome}
use Rattle.guest_mem.specs.Memory.{bytes}
use Rattle.guest_mem.proofs.memory.PagedMem.first_unmapped.Given as goal

abbrev pub invariant-loop-at : goal.invariant-loop-at
invariant-loop-at l = (l.addr ≤ l.at) × (l.at < 2 ^ 32) × ((k : ℕ) → l.addr ≤ k → k < l.at → IsSome (bytes l.self k)) × (l.addr < l.at → l.at ≤ 2 ^ 24)

abbrev pub decreases-loop-at : goal.decreases-loop-at
decreases-loop-at l = l.end - l.at

use Rattle.std.proofs.Common.{◌≡◌, ℕ, ◌+◌, ◌-◌, ◌/◌, ◌<◌, ◌≤◌, ◌^◌, false}
use Rattle.guest_mem.specs.Memory.{texts}
use Rattle.guest_mem.proofs.memory.PagedMem.has_text.Given as goal

abbrev pub invariant-loop-at : goal.invariant-loop-at
invariant-loop-at l = (l.addr ≤ l.at) × (l.at < 2 ^ 63 + 2 ^ 33) × ((k : ℕ) → l.addr ≤ k → k < l.at → texts l.self (k / 4096) ≡ false)

abbrev pub decreases-loop-at : goal.decreases-loop-at
decreases-loop-at l = l.end - l.at

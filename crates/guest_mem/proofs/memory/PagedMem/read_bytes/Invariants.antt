use Rattle.std.proofs.Common.{◌≡◌, ℕ, ◌+◌, ◌-◌, ◌<◌, ◌≤◌, Some, length, get_or}
use Rattle.guest_mem.specs.Memory.{bytes}
use Rattle.guest_mem.proofs.memory.PagedMem.read_bytes.Given as goal

abbrev pub invariant-loop-done : goal.invariant-loop-done
invariant-loop-done l =
    (l.done ≤ length l.into) × ((k : ℕ) → k < l.done → bytes l.self (l.addr + k) ≡ Some (get_or l.into k 0))

abbrev pub decreases-loop-done : goal.decreases-loop-done
decreases-loop-done l = length l.into - l.done

use Rattle.std.proofs.Common.{◌≡◌, ◌-◌, ◌≤◌, length, take}
use Rattle.guest_mem.specs.Bytes.{written}
use Rattle.guest_mem.specs.Memory.{bytes, mapped, texts}
use Rattle.guest_mem.proofs.directory.put_all.Given as goal

abbrev pub invariant-loop-done : goal.invariant-loop-done
invariant-loop-done l =
    (l.done ≤ length l.from)
    × (bytes l.pages ≡ written (bytes l.initial.pages) l.at (take l.done l.from))
    × (mapped l.pages ≡ mapped l.initial.pages)
    × (texts l.pages ≡ texts l.initial.pages)

abbrev pub decreases-loop-done : goal.decreases-loop-done
decreases-loop-done l = length l.from - l.done

use Rattle.std.proofs.Common.{◌≡◌, ◌-◌, ◌+◌, Some, true, All, vec_len}
use Rattle.guest_mem.specs.Directory.{IsZeroPage}
use Rattle.guest_mem.proofs.Repages.{Repages}
use Rattle.guest_mem.proofs.directory.install.Given as goal

abbrev pub invariant-loop-number : goal.invariant-loop-number
invariant-loop-number l =
    Repages l.initial.pages l.pages l.first (l.number - l.first) (Some 0) true l.text
    × All (IsZeroPage l.text) l.fresh.items × (vec_len l.fresh + l.number ≡ l.first + l.count)

use Rattle.std.proofs.Common.{◌≡◌, ℕ, length, []}
use Rattle.log_clocks.specs.Clocks.{slots_in}
use Rattle.log_clocks.proofs.clocks.Clocks.new.Given as goal

abbrev pub invariant-loop-hart : goal.invariant-loop-hart
invariant-loop-hart l = (length l.slots.items ≡ l._hart) × ((h : ℕ) → slots_in l.slots.items h ≡ [])

use Rattle.std.proofs.Common.{◌≡◌, ℕ, ◌<◌, ◌≤◌, max, length}
use Rattle.log_clocks.specs.Clocks.{time}
use Rattle.log_clocks.proofs.clock.Clock.raise.Given as goal

abbrev pub invariant-loop-u : goal.invariant-loop-u
invariant-loop-u l = (length l.self.numbers ≡ 8) × ((k : ℕ) → k < l.u → time l.self k ≡ max (time l.initial.self k) (time l.by k)) × ((k : ℕ) → l.u ≤ k → time l.self k ≡ time l.initial.self k)

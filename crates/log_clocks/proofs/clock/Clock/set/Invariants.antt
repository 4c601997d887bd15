use Rattle.std.proofs.Common.{◌≡◌, ℕ, ◌<◌, length}
use Rattle.log_clocks.specs.Clocks.{time}
use Rattle.log_clocks.proofs.clock.Clock.set.Given as goal

abbrev pub invariant-loop-u : goal.invariant-loop-u
invariant-loop-u l = (length l.self.numbers ≡ 8) × (l.hart < l.u → time l.self l.hart ≡ l.number) × ((k : ℕ) → (k ≡ l.hart → ⊥) → time l.self k ≡ time l.initial.self k)

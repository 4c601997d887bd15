use Rattle.std.proofs.Common.{◌≡◌, ℕ, ◌<◌, ◌≤◌, true, false}
use Rattle.log_clocks.specs.Clocks.{time}
use Rattle.log_clocks.specs.inner.Rows.{newest}
use Rattle.log_clocks.proofs.lasts.Row.is_known.Given as goal

abbrev pub invariant-loop-u : goal.invariant-loop-u
invariant-loop-u l = (l.known ≡ true → (u : ℕ) → u < l.u → (u ≡ l.hart → ⊥) → newest l.self l.store u ≤ time l.clock u)
    × (l.known ≡ false → (u : ℕ) × (u < 8) × (u ≡ l.hart → ⊥) × (time l.clock u < newest l.self l.store u))

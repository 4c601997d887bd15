use Rattle.std.proofs.Common.{◌≡◌, ℕ, drop, find, nat_le}
use Rattle.core_sim.specs.Harts.{live_from, live_harts}
use Rattle.core_sim.proofs.turn.first_from.Given as goal

abbrev pub invariant-loop-number : goal.invariant-loop-number
invariant-loop-number l = find (λ (hart : ℕ). nat_le l.from hart) (live_harts l.harts) ≡ find (λ (hart : ℕ). nat_le l.from hart) (live_from l.number (drop l.number l.harts))

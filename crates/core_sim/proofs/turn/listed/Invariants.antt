use Rattle.std.proofs.Common.{◌≡◌, ◌-◌, length, drop}
use Rattle.core_sim.specs.Harts.{live_harts}
use Rattle.core_sim.specs.Schedules.{listed_turn}
use Rattle.core_sim.proofs.turn.listed.Given as goal

abbrev pub invariant-loop-next : goal.invariant-loop-next
invariant-loop-next l = listed_turn l.at (drop l.at l.items) (live_harts l.harts) ≡ listed_turn l.next (drop l.next l.items) (live_harts l.harts)

abbrev pub decreases-loop-next : goal.decreases-loop-next
decreases-loop-next l = length l.items - l.next

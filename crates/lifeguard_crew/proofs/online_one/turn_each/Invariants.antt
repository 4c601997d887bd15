use Rattle.lifeguard_crew.specs.inner.Online.{FirstLed, IsTurned}
use Rattle.lifeguard_crew.proofs.online_one.turn_each.Given as goal

abbrev pub invariant-loop-i : goal.invariant-loop-i
invariant-loop-i g l = FirstLed l.i IsTurned g.W.TurnWorker.view l.initial.workers l.workers

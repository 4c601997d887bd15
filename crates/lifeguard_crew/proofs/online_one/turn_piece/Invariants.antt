use Rattle.lifeguard_crew.specs.inner.Online.{EachLed, IsTurned}
use Rattle.lifeguard_crew.proofs.online_one.turn_piece.Given as goal

abbrev pub invariant-loop : goal.invariant-loop
invariant-loop g l = EachLed IsTurned g.W.TurnWorker.view l.initial.workers l.workers

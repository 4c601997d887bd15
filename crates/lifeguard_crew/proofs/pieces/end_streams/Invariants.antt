use Rattle.lifeguard_crew.specs.inner.Online.{FirstLed, IsTold}
use Rattle.lifeguard_crew.proofs.pieces.end_streams.Given as goal

abbrev pub invariant-loop-i : goal.invariant-loop-i
invariant-loop-i g l = FirstLed l.i IsTold g.W.TurnWorker.view l.initial.workers l.workers

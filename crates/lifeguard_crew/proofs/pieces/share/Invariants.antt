use Rattle.lifeguard_crew.specs.inner.Online.{FirstLed, IsFed}
use Rattle.lifeguard_crew.proofs.pieces.share.Given as goal

abbrev pub invariant-loop-i : goal.invariant-loop-i
invariant-loop-i g l = FirstLed l.i (IsFed l.piece) g.W.TurnWorker.view l.initial.workers l.workers

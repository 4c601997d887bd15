use Rattle.lifeguard_crew.specs.inner.Readers.{AreDrained}
use Rattle.lifeguard_crew.proofs.drain.ready_workers.Given as goal

abbrev pub invariant-loop-slot : goal.invariant-loop-slot
invariant-loop-slot g l = AreDrained g.P.Plan.planned g.W.TurnWorker.view l.monitor l.yielded l.workers.items

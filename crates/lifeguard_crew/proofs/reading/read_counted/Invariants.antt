use Rattle.lifeguard_crew.specs.inner.Readers.{KeepsReaders}
use Rattle.lifeguard_crew.proofs.reading.read_counted.Given as goal

abbrev pub invariant-loop : goal.invariant-loop
invariant-loop g l = KeepsReaders g.P.Plan.planned g.W.TurnWorker.view l.monitor g.N.RunName.log l.rings.items l.initial.row l.row

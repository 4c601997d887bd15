use Rattle.lifeguard_crew.specs.inner.Readers.{IsReader, IsSameReader}
use Rattle.lifeguard_crew.proofs.drain.drain.Given as goal

abbrev pub invariant-loop : goal.invariant-loop
invariant-loop g l = record {
  reader : IsReader g.P.Plan.planned g.W.TurnWorker.view l.monitor g.N.RunName.log l.rings.items l.reader;
  same : IsSameReader g.W.TurnWorker.view l.initial.reader l.reader;
}

use Rattle.std.proofs.Common.{◌≤◌, length}
use Rattle.lifeguard_crew.specs.inner.Readers.{KeepsReaders}
use Rattle.lifeguard_crew.proofs.reading.turn_readers.Given as goal

abbrev pub invariant-loop-h : goal.invariant-loop-h
invariant-loop-h g l = record {
  few : length l.row ≤ 8;
  keeps : KeepsReaders g.P.Plan.planned g.W.TurnWorker.view l.monitor g.N.RunName.log l.rings.items l.initial.row l.row;
}

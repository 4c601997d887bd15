use Rattle.std.proofs.Common.{map}
use Rattle.lifeguard_crew.specs.inner.Rounds.{HaveHeardAll}
use Rattle.lifeguard_crew.proofs.one_thread.hear_all.Given as goal

abbrev pub invariant-loop-i : goal.invariant-loop-i
invariant-loop-i g l =
    let view = g.W.TurnWorker.view in
    HaveHeardAll l.i (map view l.initial.workers) (map view l.workers)

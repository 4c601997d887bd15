use Rattle.std.proofs.Common.{map}
use Rattle.lifeguard_crew.specs.inner.Rounds.{IsRound}
use Rattle.lifeguard_crew.proofs.one_thread.round.Given as goal

abbrev pub invariant-loop-i : goal.invariant-loop-i
invariant-loop-i g l =
    let view = g.W.TurnWorker.view in
    IsRound l.i (map view l.initial.workers) (map view l.workers) l.end

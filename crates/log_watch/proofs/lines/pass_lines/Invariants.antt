use Rattle.std.proofs.Common.{◌≡◌, List, length}
use Rattle.pl_event.specs.Heads.{Tells}
use Rattle.turn_worker.specs.Workers.{WorkerView}
use Rattle.log_watch.specs.Feeding.{AreFedUpTo}
use Rattle.log_watch.proofs.lines.pass_lines.Given as goal

abbrev pub invariant-loop-at : goal.invariant-loop-at
invariant-loop-at g l = record {
  heads : Tells l.heads l.lines l.at;
  size : length l.feedings ≡ length l.initial.feedings;
  fed : (starts : List WorkerView) → AreFedUpTo (λ f. g.W.TurnWorker.view f.worker) (λ f. f.piece.items) l.lines starts 0 l.initial.feedings
      → AreFedUpTo (λ f. g.W.TurnWorker.view f.worker) (λ f. f.piece.items) l.lines starts l.at l.feedings;
}

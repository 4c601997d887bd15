use Rattle.std.proofs.Common.{◌≡◌, map}
use Rattle.log_watch.specs.Feeding.{AreEmpty}
use Rattle.log_watch.proofs.lines.begun.Given as goal

abbrev pub invariant-loop-worker : goal.invariant-loop-worker
invariant-loop-worker g l = (map (λ f. f.worker) l.feedings.items ≡ l.yielded) × AreEmpty (λ f. f.piece.items) l.feedings.items

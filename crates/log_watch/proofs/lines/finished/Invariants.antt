use Rattle.std.proofs.Common.{◌≡◌, ℕ, length}
use mathlib.Core.Option.{some}
use lib.ListN.{get_elem?}
use Rattle.turn_worker.specs.Workers.{WorkerView, stream_of}
use Rattle.log_watch.specs.Feeding.{IsFedBy, IsFedWhole}
use Rattle.log_watch.specs.declared.feeding.Feeding.{Feeding}
use Rattle.log_watch.proofs.lines.finished.Given as goal

abbrev pub invariant-loop-feeding : goal.invariant-loop-feeding
invariant-loop-feeding g l = (length l.workers.items ≡ length l.yielded)
    × ((k : ℕ) (f : Feeding g.row.W.Denot g.row.W-Guard.Denot) (w : g.row.W.Denot) → get_elem? l.yielded k ≡ some f → get_elem? l.workers.items k ≡ some w
    → (start : WorkerView) → IsFedBy start (g.W.TurnWorker.view f.worker) f.piece.items (stream_of start) → IsFedWhole start (g.W.TurnWorker.view w))

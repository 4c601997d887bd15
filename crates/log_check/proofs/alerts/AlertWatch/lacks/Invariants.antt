use Rattle.std.proofs.Common.{◌≢◌, ℕ, ◌+◌, ◌<◌, List, IsTrue, false, slice_index_or}
use Rattle.pl_event.specs.declared.log.Line.{Line}
use Rattle.pl_event.specs.Conflicts.{HasNotice}
use Rattle.pl_event.specs.Edges.{IsFlow}
use Rattle.pl_event.specs.Heads.{Tells, IsNext}
use Rattle.pl_event.specs.Records.{records_before}
use Rattle.log_check.proofs.alerts.AlertWatch.lacks.Given as goal

abbrev pub invariant-loop-u : goal.invariant-loop-u
invariant-loop-u l = (harts : ℕ) (g : List Line) (i : ℕ) (b : Line) → IsFlow harts g → Tells l.heads g i → IsNext g i l.hart b
    → (u : ℕ) → u < l.u → u ≢ l.hart → IsTrue (slice_index_or l.self.active u false) → HasNotice g u l.hart (records_before l.hart g i + 1)

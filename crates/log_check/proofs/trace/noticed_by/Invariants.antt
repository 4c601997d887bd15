use Rattle.std.proofs.Common.{◌≡◌, ◌↔◌, ℕ, ◌+◌, ◌<◌, ◌≤◌, List}
use Rattle.std.specs.Int.{bit_at}
use Rattle.pl_event.specs.declared.log.Line.{Line}
use Rattle.pl_event.specs.Conflicts.{HasNotice}
use Rattle.pl_event.specs.Edges.{IsFlow}
use Rattle.pl_event.specs.Heads.{Tells, IsNext}
use Rattle.pl_event.specs.Records.{records_before}
use Rattle.log_check.proofs.trace.noticed_by.Given as goal

abbrev pub invariant-loop-u : goal.invariant-loop-u
invariant-loop-u l = record {
  none : (u : ℕ) → l.u ≤ u → bit_at l.set u ≡ 0;
  some : (harts : ℕ) (g : List Line) (i : ℕ) (b : Line) → IsFlow harts g → Tells l.heads g i → IsNext g i l.hart b
      → (u : ℕ) → u < l.u → (bit_at l.set u ≡ 1) ↔ HasNotice g u l.hart (records_before l.hart g i + 1);
}

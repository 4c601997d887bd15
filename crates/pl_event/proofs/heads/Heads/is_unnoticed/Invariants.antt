use Rattle.std.proofs.Common.{ℕ, ◌+◌, ◌<◌, ◌⊎◌, List}
use Rattle.pl_event.specs.declared.log.Line.{Line}
use Rattle.pl_event.specs.Records.{records_before}
use Rattle.pl_event.specs.Edges.{IsAfter, IsFlow, IsNotice}
use Rattle.pl_event.specs.Heads.{Tells, IsNext}
use Rattle.pl_event.proofs.heads.Heads.is_unnoticed.Given as goal

abbrev pub invariant-loop-u : goal.invariant-loop-u
invariant-loop-u l = (harts : ℕ) (g : List Line) (i : ℕ) (line : Line) → IsFlow harts g → Tells l.self g i → IsNext g i l.hart line
    → (u n : ℕ) → u < l.u → (IsNotice g u n l.hart (records_before l.hart g i + 1) ⊎ IsAfter g u n l.hart (records_before l.hart g i + 1)) → ⊥

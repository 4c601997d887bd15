use Rattle.std.proofs.Common.{◌≡◌, ℕ, ◌+◌, ◌<◌, List, length, slice_index_or, None}
use Rattle.pl_event.specs.declared.log.Line.{Line}
use Rattle.pl_event.specs.Records.{records_before}
use Rattle.pl_event.specs.Edges.{IsFlow}
use Rattle.pl_event.specs.Needs.{need_of}
use Rattle.pl_event.specs.Heads.{Tells, IsNext}
use Rattle.pl_event.proofs.heads.Heads.needs_of_all.Given as goal

abbrev pub invariant-loop-u : goal.invariant-loop-u
invariant-loop-u l = (length l.needs ≡ 8) × ((harts : ℕ) (g : List Line) (i : ℕ) → IsFlow harts g → Tells l.self g i → IsNext g i l.hart l.line → (u : ℕ) → u < l.u → slice_index_or l.needs u None ≡ need_of g u l.hart (records_before l.hart g i + 1))

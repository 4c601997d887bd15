use Rattle.std.proofs.Common.{◌≡◌, ◌≢◌, ℕ, ◌+◌, ◌<◌, List, length, false, slice_index_or}
use Rattle.pl_event.specs.declared.log.Line.{Line}
use Rattle.pl_event.specs.Conflicts.{HasNotice}
use Rattle.pl_event.specs.Edges.{IsFlow}
use Rattle.pl_event.specs.Heads.{Tells, IsNext}
use Rattle.pl_event.specs.Records.{records_before}
use Rattle.log_check.proofs.alerts.AlertWatch.miss.Given as goal

abbrev pub invariant-loop-u : goal.invariant-loop-u
invariant-loop-u l = (l.self.active ≡ l.initial.self.active)
    × (length l.self.missed ≡ 8)
    × ((u : ℕ) → slice_index_or l.self.missed u false ≡ false → slice_index_or l.initial.self.missed u false ≡ false)
    × ((u : ℕ) → u < l.u → slice_index_or l.self.missed u false ≡ false → u ≢ l.hart
    → (harts : ℕ) (g : List Line) (i : ℕ) (b : Line) → IsFlow harts g → Tells l.heads g i → IsNext g i l.hart b → HasNotice g u l.hart (records_before l.hart g i + 1))

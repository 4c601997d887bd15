use Rattle.std.proofs.Common.{◌≡◌, ℕ, ◌≤◌, ◌++◌, List, slice_index}
use Rattle.pl_event.specs.declared.log.Line.{Line}
use Rattle.conflict_alerts.specs.Placing.{notices_below}
use Rattle.conflict_alerts.specs.Placer.{Counts}
use Rattle.conflict_alerts.proofs.placer.Placer.tell.Given as goal

abbrev pub invariant-loop-u : goal.invariant-loop-u
invariant-loop-u l = (l.self.harts ≡ l.initial.self.harts)
    × (l.lines.items ≡ l.initial.lines.items ++ notices_below l.of.hart l.of.number l.u)
    × ((g : List Line) → Counts l.initial.self.records g → Counts l.self.records (g ++ notices_below l.of.hart l.of.number l.u))
    × ((h : ℕ) → l.u ≤ h → slice_index l.self.records h ≡ slice_index l.initial.self.records h)
    × (slice_index l.self.records l.of.hart ≡ slice_index l.initial.self.records l.of.hart)

use Rattle.std.proofs.Common.{◌≡◌, ℕ, ◌<◌, ◌≤◌, List, length, None, slice_index_or}
use Rattle.pl_event.specs.declared.log.Line.{Line}
use Rattle.arc_reduce.specs.Reduction.{IsChosen}
use Rattle.arc_reduce.specs.Taken.{MayTake, next_number, with_line}
use Rattle.arc_reduce.proofs.reducer.Reducer.chosen.Given as goal

abbrev pub invariant-loop-u : goal.invariant-loop-u
invariant-loop-u l = (length l.kept ≡ 8) × ((v : ℕ) → l.u ≤ v → slice_index_or l.kept v None ≡ None)
    × ((full : List Line) → MayTake l.self full l.line l.candidates → (v : ℕ) → v < l.u → IsChosen (with_line full l.line l.candidates) v l.hart (next_number full l.line) (slice_index_or l.candidates v None) (slice_index_or l.kept v None))

use Rattle.std.proofs.Common.{◌≡◌, ℕ, ◌<◌, length, slice_index_or, None}
use Rattle.pl_event.specs.Edges.{some_number}
use Rattle.log_clocks.specs.inner.Rows.{newest}
use Rattle.log_clocks.proofs.lasts.Row.conflicting.Given as goal

abbrev pub invariant-loop-u : goal.invariant-loop-u
invariant-loop-u l = (length l.found ≡ 8) × (slice_index_or l.found l.hart None ≡ None)
    × ((u : ℕ) → u < l.u → (u ≡ l.hart → ⊥) → slice_index_or l.found u None ≡ some_number (newest l.self l.store u))

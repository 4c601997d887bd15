use Rattle.std.proofs.Common.{◌≡◌, ℕ, ◌+◌, ◌≤◌, ◌<◌, true}
use Rattle.std.specs.Prelude.{slice_index}
use Rattle.report_text.proofs.runs.is_block_alike.Given as goal

abbrev pub invariant-loop-i : goal.invariant-loop-i
invariant-loop-i l = l.alike ≡ true → (a : ℕ) → l.from ≤ a → a < l.from + l.i → slice_index l.cells a ≡ slice_index l.cells l.from

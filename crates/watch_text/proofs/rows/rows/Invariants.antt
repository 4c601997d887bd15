use Rattle.std.proofs.Common.{◌≡◌, map, take}
use Rattle.watch_text.specs.inner.Rows.{row_of}
use Rattle.watch_text.proofs.rows.rows.Given as goal

abbrev pub invariant-loop-found : goal.invariant-loop-found
invariant-loop-found l = l.table.items ≡ map row_of (take l.found-index l.results)

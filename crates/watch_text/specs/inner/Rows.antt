-- The masks of a worker's result, one register after the other.
use Rattle.std.specs.Prelude.{ℕ, List, map, slice_index}
use Rattle.lifeguard.specs.State.{span}
use Rattle.turn_worker.specs.declared.worker.HartResult.{HartResult}

abbrev pub row_of : HartResult → List ℕ
row_of found = map (slice_index found.masks) (span 0 34)

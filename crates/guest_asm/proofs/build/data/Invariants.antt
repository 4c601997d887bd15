use Rattle.std.proofs.Common.{◌≡◌, ◌++◌, drop, map}
use Rattle.std.specs.List.{flat_map}
use Rattle.guest_asm.specs.Jobs.{placed, data_of}
use Rattle.guest_asm.proofs.build.data.Given as goal

abbrev pub invariant-rows : goal.invariant-rows
invariant-rows l = l.bytes.items ++ flat_map data_of (map placed (drop l.row-index l.rows)) ≡ flat_map data_of (map placed l.rows)

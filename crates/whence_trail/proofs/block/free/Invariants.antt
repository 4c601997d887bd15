use Rattle.std.proofs.Common.{◌≡◌, ◌++◌, map, take, drop}
use Rattle.whence_trail.specs.Blocks.{freed_by}
use Rattle.whence_trail.proofs.block.free.Given as goal

abbrev pub invariant-each : goal.invariant-each
invariant-each l = l.blocks.items ≡ map (freed_by l.addr l.free) (take l.place l.initial.blocks.items) ++ drop l.place l.initial.blocks.items

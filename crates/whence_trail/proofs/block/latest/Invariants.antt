use Rattle.std.proofs.Common.{◌≡◌, take}
use Rattle.whence_trail.specs.Blocks.{latest_in}
use Rattle.whence_trail.proofs.block.latest.Given as goal

abbrev pub invariant-each : goal.invariant-each
invariant-each l = l.found ≡ latest_in (take l.block-index l.blocks) l.addr

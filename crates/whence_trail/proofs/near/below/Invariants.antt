use Rattle.std.proofs.Common.{◌≡◌, ◌-◌}
use Rattle.whence_trail.specs.Blocks.{latest_in}
use Rattle.whence_trail.specs.Nearness.{below}
use Rattle.whence_trail.proofs.near.below.Given as goal

abbrev pub invariant-below : goal.invariant-below
invariant-below l = below (latest_in l.blocks) l.reach l.addr ≡ below (latest_in l.blocks) (l.reach - l.step) l.at

use Rattle.std.proofs.Common.{rules, arith}
use Rattle.whence_trail.specs.Blocks.{freed_by}
use Rattle.whence_trail.proofs.TrailLemmas.{set_mapped}
use Rattle.whence_trail.proofs.block.free.Goals as goal

pub each-preserved : goal.each-preserved
each-preserved c =
    set_mapped (freed_by c.args.addr c.args.free) c.args.blocks.now.items c.each.blocks.items c.each.place c.index.result.now c.freed_by.result
    (omega arith) c.each.invariant (search rules)

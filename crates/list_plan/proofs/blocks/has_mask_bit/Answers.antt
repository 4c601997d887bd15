use Rattle.std.proofs.Common.{sym}
use Rattle.list_plan.proofs.BlockLemmas.{high_bit}
use Rattle.list_plan.proofs.blocks.has_mask_bit.Goals as goal

pub returns-then-i-ge8 : goal.returns-then-i-ge8
returns-then-i-ge8 c = sym (high_bit c.args.mask c.args.i c.ranges.mask.fits c.if-i-ge8.true)

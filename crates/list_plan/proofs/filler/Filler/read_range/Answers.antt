use Rattle.std.proofs.Common.{◌/◌}
use Rattle.shadow_layout.specs.Operations.{read_block}
use Rattle.list_plan.proofs.FillLemmas.{fills_next}
use Rattle.list_plan.proofs.filler.Filler.read_range.Goals as goal

pub loop-i-preserved : goal.loop-i-preserved
loop-i-preserved c = fills_next read_block c.args.self.now c.loop-i.self c.read_block.new.self (c.args.addr / 16) c.loop-i.i c.loop-i.invariant c.in_ok-read_block.ensures

use Rattle.std.proofs.Common.{◌/◌}
use Rattle.shadow_layout.specs.Operations.{change_block}
use Rattle.list_plan.specs.inner.Changes.{changed_nibble}
use Rattle.list_plan.proofs.FillLemmas.{fills_next}
use Rattle.list_plan.proofs.filler.Filler.change_range.Goals as goal

pub loop-i-preserved : goal.loop-i-preserved
loop-i-preserved g c = fills_next (change_block (changed_nibble (g.L.Lifeguard.rules c.args.guard) c.args.change) c.args.addr c.args.len) c.args.self.now c.loop-i.self c.change_block.new.self (c.args.addr / 16) c.loop-i.i c.loop-i.invariant c.in_ok-change_block.ensures

use Rattle.std.proofs.Common.{◌+◌, ◌*◌, refl}
use Rattle.list_plan.specs.inner.Pieces.{word_filled}
use Rattle.list_plan.proofs.FillLemmas.{fills_next}
use Rattle.list_plan.proofs.filler.Filler.fill_frame.Goals as goal

pub loop-i-preserved : goal.loop-i-preserved
unfolding word_filled
loop-i-preserved c = fills_next (word_filled c.args.filling) c.args.self.now c.loop-i.self c.write.new.self (4113 + 256 * c.args.frame) c.loop-i.i c.loop-i.invariant (c.in_ok-write.ensures (λ _. c.args.filling) refl)

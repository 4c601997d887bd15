use Rattle.std.proofs.Common.{arith, sym, ◌∙◌}
use Rattle.shadow_frames.proofs.LowestFree.{lowest_is, lowest_none, one_more}
use Rattle.shadow_frames.proofs.frame_map.free_frame.Goals as goal

pub loop-frame-init : goal.loop-frame-init
loop-frame-init c = λ f lt. absurd (omega arith)

pub returns-then-not-has_bit : goal.returns-then-not-has_bit
returns-then-not-has_bit c = λ w is. lowest_is c.args.map.now w is c.loop-frame.frame c.loop-frame-test.true c.loop-frame.invariant (sym c.has_bit.ensures ∙ c.if-not-has_bit.true)

pub loop-frame-preserved : goal.loop-frame-preserved
loop-frame-preserved c = one_more c.args.map.now c.loop-frame.frame c.loop-frame.invariant (sym c.has_bit.ensures ∙ c.if-not-has_bit.false)

pub returns : goal.returns
returns c = λ w is. lowest_none c.args.map.now w is (λ f lt. c.loop-frame.invariant f (omega arith))

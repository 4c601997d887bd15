use Rattle.std.proofs.Common.{ℕ, ◌<◌, ap, ◌∙◌, arith}
use Rattle.shadow_frames.specs.Words.{nibble_of}
use Rattle.shadow_frames.proofs.NibbleLemmas.{old_below, sum_is, sum_fits, replaced_nibble}
use Rattle.shadow_frames.proofs.nibbles.with_nibble.Goals as goal

pub overflow_sub-others : goal.overflow_sub-others
overflow_sub-others c = old_below c.args.word c.nibble.result c.args.n c.args.byte c.nibble.ensures c.requires.byte (omega (arith, c.requires.small)) c.ranges.word.fits

pub overflow_add-result : goal.overflow_add-result
overflow_add-result c =
    let small : c.args.n < 16 = omega (arith, c.requires.small) in
    let fits = sum_fits c.args.word c.nibble.result c.args.n c.args.byte c.nibble.ensures c.requires.byte small c.ranges.word.fits in
    grind (arith, fits)

pub returns : goal.returns
returns c = λ i lt.
    let small : c.args.n < 16 = omega (arith, c.requires.small) in
    ap (λ (z : ℕ). nibble_of z i) (sum_is c.args.word c.nibble.result c.args.n c.args.byte c.nibble.ensures c.requires.byte small c.ranges.word.fits)
    ∙ replaced_nibble c.args.word c.args.n c.args.byte i small

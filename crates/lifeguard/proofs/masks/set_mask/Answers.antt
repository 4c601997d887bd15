use Rattle.std.proofs.Common.{arith, sym}
use Rattle.lifeguard.proofs.MaskLemmas.{masks_of-set, with_mask_zero}
use Rattle.lifeguard.specs.Shadow.{masks_of}
use Rattle.lifeguard.proofs.masks.set_mask.Goals as goal

pub returns-then-reg-ne0 : goal.returns-then-reg-ne0
returns-then-reg-ne0 c =
    rw c.set_in_row.ensures.after (masks_of-set c.args.masks.now c.args.hart c.args.reg c.args.mask (omega arith) (omega arith) c.if-reg-ne0.true)

pub returns-else-reg-ne0 : goal.returns-else-reg-ne0
returns-else-reg-ne0 c = sym (with_mask_zero c.args.hart c.args.reg c.args.mask (masks_of c.args.masks.now) (omega arith))

use Rattle.lifeguard.proofs.MaskLemmas.{masks_of-rows}
use Rattle.lifeguard.proofs.masks.clear_masks.Goals as goal

pub returns : goal.returns
returns c = masks_of-rows 8 34

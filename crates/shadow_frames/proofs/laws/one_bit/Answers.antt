use Rattle.shadow_frames.proofs.BitLemmas.{set_bit, clear_bit, set_fits}
use Rattle.shadow_frames.proofs.laws.one_bit.Goals as goal

pub returns-clause-set : goal.returns-clause-set
returns-clause-set _ v k j e = set_bit v k j e

pub returns-clause-clear : goal.returns-clause-clear
returns-clause-clear _ v k j e = clear_bit v k j e

pub returns-clause-fits : goal.returns-clause-fits
returns-clause-fits _ v k n a b e = set_fits v k n a b e

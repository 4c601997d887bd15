use Rattle.shadow_frames.proofs.NibbleLemmas.{as_product}
use Rattle.shadow_frames.proofs.nibbles.all_nibbles.Goals as goal

pub returns : goal.returns
returns c = as_product c.args.n

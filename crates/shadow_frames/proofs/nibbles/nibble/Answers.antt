use Rattle.shadow_frames.proofs.NibbleLemmas.{shifted_nibble}
use Rattle.shadow_frames.proofs.nibbles.nibble.Goals as goal

pub returns : goal.returns
returns c = shifted_nibble c.args.word c.args.byte

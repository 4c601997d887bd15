use Rattle.std.proofs.Common.{w64}
use Rattle.std.proofs.lemmas.Nat.Bits.{bit_at_set_same, bit_at_set_other}
use Rattle.inherit_track.proofs.held.with.Goals as goal

pub returns-clause-here : goal.returns-clause-here
returns-clause-here c = bit_at_set_same w64 c.args.set c.args.r c.requires

pub returns-clause-others : goal.returns-clause-others
returns-clause-others c i other = bit_at_set_other w64 c.args.set c.args.r c.requires i other

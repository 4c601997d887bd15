use Rattle.std.proofs.Common.{w64, arith}
use Rattle.std.proofs.lemmas.Nat.Bits.{bit_at_clear_same}
use Rattle.inherit_track.proofs.HeldLemmas.{without_less, without_others}
use Rattle.inherit_track.proofs.held.without.Goals as goal

pub returns-clause-here : goal.returns-clause-here
returns-clause-here c = bit_at_clear_same w64 c.args.set c.args.r c.requires

pub returns-clause-others : goal.returns-clause-others
returns-clause-others c i other = without_others c.args.set c.args.r i (omega arith) c.requires other

pub returns-clause-less : goal.returns-clause-less
returns-clause-less c is = without_less c.args.set c.args.r c.requires is

use Rattle.std.proofs.Common.{refl}
use Rattle.inherit_track.proofs.RegisterLemmas.{clear_in, clear_sound}
use Rattle.inherit_track.proofs.inherit.Inherit.new.Goals as goal

pub invariant_of-result : goal.invariant_of-result
invariant_of-result c = (clear_sound, refl)

pub returns : goal.returns
returns c r = clear_in r

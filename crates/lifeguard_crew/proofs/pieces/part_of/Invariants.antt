use Rattle.std.proofs.Common.{◌≡◌, take}
use Rattle.ring_feed.specs.Streams.{records_on}
use Rattle.lifeguard_crew.proofs.pieces.part_of.Given as goal

abbrev pub invariant-loop-fed : goal.invariant-loop-fed
invariant-loop-fed l = l.part.items ≡ records_on l.hart (take l.fed-index l.piece)

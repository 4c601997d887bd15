use Rattle.std.proofs.Common.{length}
use Rattle.paralog_top.proofs.chosen.+place_from.Given as goal

abbrev pub decreases-place_from : goal.decreases-place_from
decreases-place_from g l = length l.probes.now

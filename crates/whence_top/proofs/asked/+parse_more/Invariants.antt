use Rattle.std.proofs.Common.{length}
use Rattle.whence_top.proofs.asked.+parse_more.Given as goal

abbrev pub decreases-parse_more : goal.decreases-parse_more
decreases-parse_more l = length l.words.now

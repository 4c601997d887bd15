use Rattle.arc_reduce.proofs.Drawing.{least, ordered_accesses}
use Rattle.arc_reduce.proofs.laws.drawn_candidates.Goals as goal

pub returns-clause-least : goal.returns-clause-least
returns-clause-least c = least

pub returns-clause-ordered : goal.returns-clause-ordered
returns-clause-ordered c = ordered_accesses

use Rattle.std.proofs.Common.{length}
use Rattle.log_grammar.proofs.ArcReading.{IsSoFar}
use Rattle.log_grammar.proofs.grammar.arcs.list_at.Given as goal

abbrev pub invariant-points : goal.invariant-points
invariant-points l = record { far : IsSoFar l.text l.list l.rest }

abbrev pub decreases-points : goal.decreases-points
decreases-points l = length l.rest

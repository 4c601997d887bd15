use Rattle.arc_reduce.proofs.Longer.{longer_reduced, nothing_reduced}
use Rattle.arc_reduce.proofs.laws.grown_reduction.Goals as goal

pub returns-clause-first : goal.returns-clause-first
returns-clause-first c = nothing_reduced

pub returns-clause-next : goal.returns-clause-next
returns-clause-next c harts g f line candidates kept flow reduced chosen = longer_reduced harts g f line candidates kept flow reduced chosen

use Rattle.std.proofs.Common.{sym}
use Rattle.arc_reduce.proofs.Same.{flow_reduced, paths_on, paths_back, ordered_same}
use Rattle.arc_reduce.proofs.laws.reduced_logs.Goals as goal

pub returns-clause-flow : goal.returns-clause-flow
returns-clause-flow c = flow_reduced

pub returns-clause-paths : goal.returns-clause-paths
returns-clause-paths c harts g f flow reduced u n h m = (paths_on harts g f flow reduced u n h m, paths_back harts g f flow reduced u n h m)

pub returns-clause-ordered : goal.returns-clause-ordered
returns-clause-ordered c harts g f flow reduced size upto = (
  ordered_same g f reduced.records (paths_on harts g f flow reduced) size upto,
  ordered_same f g (sym reduced.records) (paths_back harts g f flow reduced) size upto,
)

use Rattle.pl_event.proofs.Edges.{forward}
use Rattle.pl_event.proofs.Sources.{need_most}
use Rattle.pl_event.proofs.Paths.{by_needs, of_needs}
use Rattle.pl_event.proofs.order.log_paths.Goals as goal

pub returns-clause-forward : goal.returns-clause-forward
returns-clause-forward c = forward

pub returns-clause-last : goal.returns-clause-last
returns-clause-last c = need_most

pub returns-clause-by_needs : goal.returns-clause-by_needs
returns-clause-by_needs c = by_needs

pub returns-clause-of_needs : goal.returns-clause-of_needs
returns-clause-of_needs c = of_needs

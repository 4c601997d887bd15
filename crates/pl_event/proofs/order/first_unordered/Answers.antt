use Rattle.pl_event.proofs.Unordered.{one, none}
use Rattle.pl_event.proofs.order.first_unordered.Goals as goal

pub returns-clause-one : goal.returns-clause-one
returns-clause-one c = one

pub returns-clause-none : goal.returns-clause-none
returns-clause-none c = none

use Rattle.order_core.proofs.FilledLemmas as filled
use Rattle.order_core.proofs.laws.filled_plans.Goals as goal

pub returns-clause-values : goal.returns-clause-values
returns-clause-values _ shapes log opening fit p a at reads j four covered = filled.values shapes log opening fit p a at reads j four covered

pub returns-clause-last : goal.returns-clause-last
returns-clause-last _ shapes log opening fit w j four = filled.last shapes log opening fit w j four

pub returns-clause-lawful : goal.returns-clause-lawful
returns-clause-lawful _ shapes log opening are = filled.lawful shapes log opening are

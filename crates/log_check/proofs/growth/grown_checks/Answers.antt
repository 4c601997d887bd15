use Rattle.log_check.proofs.Growing.{checked_on, named_on}
use Rattle.log_check.proofs.growth.grown_checks.Goals as goal

pub returns-clause-checked : goal.returns-clause-checked
returns-clause-checked c = checked_on

pub returns-clause-named : goal.returns-clause-named
returns-clause-named c = named_on

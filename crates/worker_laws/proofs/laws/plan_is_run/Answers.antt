use Rattle.worker_laws.proofs.PlanRun.{log_is_run}
use Rattle.worker_laws.proofs.laws.plan_is_run.Goals as goal

pub returns : goal.returns
returns _ rules log laws lawful = log_is_run rules log laws lawful

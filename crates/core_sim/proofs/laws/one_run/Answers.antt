use Rattle.core_sim.proofs.Unique.{one_prefix, one_run_of}
use Rattle.core_sim.proofs.laws.one_run.Goals as goal

pub returns-clause-prefix : goal.returns-clause-prefix
returns-clause-prefix c = one_prefix

pub returns-clause-run : goal.returns-clause-run
returns-clause-run c = one_run_of

use Rattle.core_sim.proofs.Existing.{has_run, is_part}
use Rattle.core_sim.proofs.Unique.{one_run_of}
use Rattle.core_sim.proofs.laws.has_run.Goals as goal

pub returns-clause-run : goal.returns-clause-run
returns-clause-run c = has_run

pub returns-clause-part : goal.returns-clause-part
returns-clause-part c = λ job run entries is prefix. is_part job run entries is prefix (one_run_of job)

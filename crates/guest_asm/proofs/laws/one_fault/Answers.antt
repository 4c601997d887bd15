use Rattle.guest_asm.proofs.Verdicts.{no_job, one_fault}
use Rattle.guest_asm.proofs.laws.one_fault.Goals as goal

pub returns-clause-no_job : goal.returns-clause-no_job
returns-clause-no_job c = no_job

pub returns-clause-one : goal.returns-clause-one
returns-clause-one c = one_fault

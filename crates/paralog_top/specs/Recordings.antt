-- `record` and `upgrade`: logs that a recorder makes.
use Rattle.std.specs.Prelude.{ℕ, List}
use Rattle.core_sim.specs.declared.job.Job.{Job}
use Rattle.pl_event.specs.declared.log.Log.{Log}
use Rattle.log_text.specs.WellFormed.{IsLogText}
use Rattle.guest_asm.specs.Jobs.{IsJobText}
use Rattle.run_record.specs.Texts.{IsRecordText, IsUpgradeText}

-- the text is the log of the run of the job that the bytes spell
pub record IsRecordTold (bytes text : List ℕ) : Type 0 where
  pub job : Job
  pub read : IsJobText bytes job
  pub told : IsRecordText job text

-- the text is the log of the bytes, recorded anew
pub record IsUpgradeTold (bytes text : List ℕ) : Type 0 where
  pub log : Log
  pub read : IsLogText bytes log
  pub told : IsUpgradeText log text

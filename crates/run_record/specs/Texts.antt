-- The texts that are made of recorded runs and logs.
use Rattle.std.specs.Prelude.{◌≡◌, ℕ, List}
use Rattle.pl_base.specs.declared.layout.TheConstants.{SMALL_BLOCK_BYTES}
use Rattle.pl_event.specs.declared.log.Log.{Log}
use Rattle.pl_event.specs.Numbers.{events_of}
use Rattle.log_grammar.specs.Spelling.{log_spelling}
use Rattle.log_text.specs.Reading.{IsOnly}
use Rattle.core_sim.specs.declared.job.Job.{Job}
use Rattle.arc_capture.specs.Recorded.{IsRecorded}
use Rattle.run_record.specs.Recorded.{IsLogOfRun}

-- the text is that of the log of the job's run
pub record IsRecordText (job : Job) (text : List ℕ) : Type 0 where
  pub log : Log
  pub of_run : IsLogOfRun job log
  pub told : text ≡ log_spelling log

-- the text is that of the log which a recorder of blocks of 4 bytes makes of the same pages and events
pub record IsUpgradeText (log : Log) (text : List ℕ) : Type 0 where
  pub made : Log
  pub recorded : IsRecorded log.harts SMALL_BLOCK_BYTES log.pages (events_of log.lines) made
  pub told : text ≡ log_spelling made

-- and that log is the one of the bytes
pub record IsUpgradeOf (bytes text : List ℕ) : Type 0 where
  pub log : Log
  pub read : IsOnly bytes log
  pub made : IsUpgradeText log text

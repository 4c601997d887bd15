-- The recorded log of a job's run.
use Rattle.std.specs.Prelude.{◌≡◌, ◌++◌, List}
use Rattle.pl_event.specs.declared.log.Line.{Line}
use Rattle.pl_event.specs.declared.log.Log.{Log}
use Rattle.core_sim.specs.declared.job.Job.{Job}
use Rattle.run_record.specs.Recorded.{IsLogOfRun}

-- the run of the job has a recorded log
pub record HasLog (job : Job) : Type 0 where
  pub log : Log
  pub of_run : IsLogOfRun job log

-- these lines come first among all
pub record IsStartOf (lines all : List Line) : Type 0 where
  pub later : List Line
  pub all_are : all ≡ lines ++ later

-- logs of the run of the job are one
abbrev pub HasOneLog : Job → Type 0
HasOneLog job = (a b : Log) → IsLogOfRun job a → IsLogOfRun job b → a ≡ b

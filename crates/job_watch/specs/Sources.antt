-- A run that is taken step by step, and its lines that are handed out one by one.
use Rattle.std.specs.Prelude.{◌≡◌, ℕ, suc, ◌+◌, ◌≤◌, [], ◌∷◌, ◌++◌, List, length}
use Rattle.pl_base.specs.declared.layout.TheConstants.{MAX_RECORDS}
use Rattle.pl_event.specs.declared.fed.Fed.{Fed}
use Rattle.pl_event.specs.declared.heads.Heads.{Heads}
use Rattle.pl_event.specs.declared.log.Line.{Line}
use Rattle.pl_event.specs.declared.log.Log.{Log}
use Rattle.pl_event.specs.Heads.{Tells}
use Rattle.core_sim.specs.declared.job.Job.{Job}
use Rattle.run_record.specs.declared.recording.Recording.{Recording}
use Rattle.run_record.specs.Recorded.{IsLogOfRun}
use Rattle.run_record.specs.Recording.{IsRecording}
use Rattle.job_watch.specs.declared.phase.Phase.{Phase}
use Rattle.job_watch.specs.declared.phase.Phase.TheVariants as phase
use Rattle.job_watch.specs.Runs.{lines_from}

-- so many lines of the log of the job's run were handed out, and of the last step's lines so many
pub record IsAt (job : Job) (log : Log) (at : ℕ) (recording : Recording) (heads : Heads) (step : List Line)
    (handed : ℕ) : Type 0 where
  pub of_run : IsLogOfRun job log
  pub before : List Line
  pub recorded : IsRecording job (before ++ step) recording
  pub within : handed ≤ length step
  pub place : at ≡ length before + handed
  pub few : at ≤ MAX_RECORDS
  pub tells : Tells heads log.lines at

-- the line at this position of the log, as a worker takes it
abbrev pub IsFirst : Log → ℕ → Fed → Type 0
IsFirst log at fed = lines_from log at ≡ fed ∷ lines_from log (suc at)

-- where the run goes on, so many lines were handed out; where it is over, none is left
abbrev pub IsIn : Job → Log → ℕ → Phase → Recording → Heads → List Line → ℕ → Type 0
IsIn job log at phase.Going recording heads step handed = IsAt job log at recording heads step handed
IsIn job log at phase.Over recording heads step handed = lines_from log at ≡ []
IsIn job log at phase.Failed recording heads step handed = Unit {0}

-- a feed of the log of the job's run, which has handed out so many lines
pub record IsFeeding (job : Job) (at : ℕ) (now : Phase) (recording : Recording) (heads : Heads) (step : List Line)
    (handed : ℕ) : Type 0 where
  pub log : Log
  pub log_of_run : IsLogOfRun job log
  pub is_in : IsIn job log at now recording heads step handed

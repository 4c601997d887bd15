-- `watch`, `monitor` and `counts`: what the workers of a log or of a run find.
use Rattle.std.specs.Prelude.{◌≡◌, ℕ, List, []}
use Rattle.pl_event.specs.declared.log.Log.{Log}
use Rattle.pl_event.specs.declared.log.Point.{Point}
use Rattle.pl_event.specs.Conflicts.{IsOrdered}
use Rattle.lifeguard.specs.Rules.{Rules}
use Rattle.lifeguard.specs.declared.guard.Name.{Name}
use Rattle.log_text.specs.Reading.{IsOnly}
use Rattle.core_sim.specs.declared.job.Job.{Job}
use Rattle.guest_asm.specs.Jobs.{IsJobText}
use Rattle.run_record.specs.Recorded.{IsLogOfRun}
use Rattle.log_check.specs.Answers.{NamesFirst}
use Rattle.watch_text.specs.CountsText.{log_counts}
use Rattle.paralog_top.specs.declared.answer.Verdict.{Verdict}
use Rattle.paralog_top.specs.declared.answer.Verdict.TheVariants.{Clean, Reports, Unordered}
use Rattle.paralog_top.specs.Results.{IsResult, rules_of}

-- the bytes are this log alone, and the answer has what its workers find
pub record IsFound (HasFound : Log → List ℕ → Verdict → Type 0) (bytes text : List ℕ) (verdict : Verdict)
    : Type 0 where
  pub log : Log
  pub read : IsOnly bytes log
  pub found : HasFound log text verdict

-- the log has this first pair that is not ordered, and there is no text
abbrev pub IsUnordered : Log → Point → Point → List ℕ → Type 0
IsUnordered log earlier later text = NamesFirst log earlier later × (text ≡ [])

-- ---- `watch`

-- the log is ordered, and the answer is its plain result
abbrev pub HasResult : Rules → Log → List ℕ → Verdict → Type 0
HasResult rules log text (Unordered earlier later) = IsUnordered log earlier later text
HasResult rules log text verdict = IsOrdered log × IsResult rules log text verdict

abbrev pub IsWatch : Name → List ℕ → List ℕ → Verdict → Type 0
IsWatch guard = IsFound (HasResult (rules_of guard))

-- ---- `monitor`

-- the answer is the plain result of the log that is recorded of the job's run
pub record IsRunResult (rules : Rules) (job : Job) (text : List ℕ) (verdict : Verdict) : Type 0 where
  pub log : Log
  pub of_run : IsLogOfRun job log
  pub result : IsResult rules log text verdict

-- the bytes are a job, and the answer is the result of its run
pub record IsMonitor (guard : Name) (bytes text : List ℕ) (verdict : Verdict) : Type 0 where
  pub job : Job
  pub read : IsJobText bytes job
  pub found : IsRunResult (rules_of guard) job text verdict

-- ---- `counts`

-- the log is ordered, and the text tells the checks and misses of each hart
abbrev pub HasCounts : Rules → Log → List ℕ → Verdict → Type 0
HasCounts rules log text Clean = IsOrdered log × (text ≡ log_counts rules log)
HasCounts rules log text Reports = ⊥
HasCounts rules log text (Unordered earlier later) = IsUnordered log earlier later text

abbrev pub IsCounts : Name → List ℕ → List ℕ → Verdict → Type 0
IsCounts guard = IsFound (HasCounts (rules_of guard))

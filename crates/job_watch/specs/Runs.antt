-- The recorded log of a job's run, which is known to be there, and of which there is one.
use Rattle.std.specs.Prelude.{ℕ, List, drop}
use Rattle.std.proofs.Math.Logic.{∥∥₁_elim}
use Rattle.pl_event.specs.declared.fed.Fed.{Fed}
use Rattle.pl_event.specs.declared.log.Log.{Log}
use Rattle.pl_event.specs.Feeds.{feds_from}
use Rattle.core_sim.specs.declared.job.Job.{Job}
use Rattle.run_record.specs.Recorded.{IsLogOfRun}
use Rattle.run_log.specs.Logs.{HasLog, HasOneLog}
use Rattle.run_log.proofs.Picking.{one_log}

abbrev pub Picked : Job → Type 0
Picked job = (log : Log) × ∥ IsLogOfRun job log ∥₁

abbrev pub picked : (job : Job) → HasOneLog job → ∥ HasLog job ∥₁ → Picked job
picked job one there = ∥∥₁_elim there (one_log job one) (λ (has : HasLog job). (has.log, ∣ has.of_run ∣₁))

-- the log that is recorded of the job's run
abbrev pub log_of : (job : Job) → HasOneLog job → ∥ HasLog job ∥₁ → Log
log_of job one there = (picked job one there).0

-- the lines of a log from a position on, each as a worker takes it
abbrev pub lines_from : Log → ℕ → List Fed
lines_from log at = feds_from log.lines at (drop at log.lines)

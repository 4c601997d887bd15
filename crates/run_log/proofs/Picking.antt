-- Where a job has one recorded log, what is said of it is a fact.
use Rattle.std.proofs.Common.{◌≡◌, ℕ, subst}
use Rattle.std.proofs.Math.Logic.{∥∥₁_elim}
use denote.Struct.Props.{props}
use Rattle.pl_event.specs.declared.log.Log.{Log}
use Rattle.core_sim.specs.declared.job.Job.{Job}
use Rattle.run_record.specs.Recorded.{IsLogOfRun}
use Rattle.run_log.specs.Logs.{HasOneLog}

number_set : IsSet ℕ
number_set = hlevel props

log_set : IsSet Log
log_set = hlevel props

module _ (job : Job) (one : HasOneLog job) where
  told : (p q : (log : Log) × ∥ IsLogOfRun job log ∥₁) → p.0 ≡ q.0
  told p q = ∥∥₁_elim p.1 (log_set p.0 q.0) (λ (a : IsLogOfRun job p.0). ∥∥₁_elim q.1 (log_set p.0 q.0) (λ (b : IsLogOfRun job q.0). one p.0 q.0 a b))

  truth : (log : Log) → IsProp ∥ IsLogOfRun job log ∥₁
  truth log = hlevel props

  pub one_log : IsProp ((log : Log) × ∥ IsLogOfRun job log ∥₁)
  one_log p q = subst (λ (z : Log). (t : ∥ IsLogOfRun job z ∥₁) → p ≡ (z, t)) (told p q) (λ t. λ i. (p.0, truth p.0 p.1 t i)) q.1

  -- it is each log of the run
  pub picked_is : (p : (log : Log) × ∥ IsLogOfRun job log ∥₁) (log : Log) → IsLogOfRun job log → p.0 ≡ log
  picked_is p log is = ∥∥₁_elim p.1 (log_set p.0 log) (λ (a : IsLogOfRun job p.0). one p.0 log a is)

  pub picked_harts : (p : (log : Log) × ∥ IsLogOfRun job log ∥₁) → p.0.harts ≡ job.harts
  picked_harts p = ∥∥₁_elim p.1 (number_set p.0.harts job.harts) (λ (a : IsLogOfRun job p.0). a.recorded.harts)

  pub picked_block : (p : (log : Log) × ∥ IsLogOfRun job log ∥₁) → p.0.block ≡ 16
  picked_block p = ∥∥₁_elim p.1 (number_set p.0.block 16) (λ (a : IsLogOfRun job p.0). a.recorded.block)

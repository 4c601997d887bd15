use Rattle.std.proofs.Common.{◌≤◌, length, sym, ap, subst, arith}
use Rattle.std.proofs.Math.Logic.{∥∥₁_elim}
use denote.Struct.Props.{props}
use Rattle.pl_event.specs.declared.log.Log.{Log}
use Rattle.core_sim.specs.declared.job.Job.{Job}
use Rattle.core_sim.specs.Valid.{IsValidJob}
use Rattle.run_record.specs.Recorded.{IsLogOfRun}
use Rattle.run_log.proofs.Picking.{picked_is}
use Rattle.log_plan.specs.Plans.{plan_of}
use Rattle.log_plan.proofs.PlanLemmas.{log_lawful}
use Rattle.job_watch.specs.Runs.{Picked, picked}
use Rattle.job_watch.proofs.job_plan.JobPlan.new.Goals as goal

pub invariant_of-result : goal.invariant_of-result
invariant_of-result g c =
    let job : Job = c.new-run.result.job.now in
    let p : Picked job = picked job c.new-run.result.one c.new-run.result.there in
    let valid : IsValidJob job = subst IsValidJob (sym c.new-run.ensures) c.requires in
    record {
      lawful = ∥∥₁_elim p.1 (hlevel props) (λ (is : IsLogOfRun job p.0).
          let run = (c.log_laws.ensures.formed p.0).0 (c.recorded_runs.ensures.formed job p.0 valid is) in
          let few : length p.0.lines ≤ 2000000 = run.1 in
          log_lawful (g.L.Lifeguard.rules c.args.guard) (g.met.L.Lifeguard.lawful c.args.guard) p.0 ∣ run.0 ∣₁ ∣ c.recorded_runs.ensures.ordered job p.0 valid is ∣₁ (omega arith));
    }

pub returns-clause-log : goal.returns-clause-log
returns-clause-log g c log is =
    let run = c.new-run.result in
    ap (plan_of (g.L.Lifeguard.rules c.args.guard)) (picked_is run.job.now run.one (picked run.job.now run.one run.there) log (subst (λ (j : Job). IsLogOfRun j log) (sym c.new-run.ensures) is))

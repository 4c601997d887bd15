use Rattle.log_plan.proofs.PlanLemmas.{log_lawful}
use Rattle.log_plan.proofs.plan.LogPlan.new.Goals as goal

pub invariant_of-result : goal.invariant_of-result
invariant_of-result g c =
    let ordered = c.args.log.now in
    record { lawful = log_lawful (g.L.Lifeguard.rules c.args.l) (g.met.L.Lifeguard.lawful c.args.l) ordered.log ordered.lawful ordered.ordered c.requires.few }

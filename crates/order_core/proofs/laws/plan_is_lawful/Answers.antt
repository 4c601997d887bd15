use Rattle.order_core.proofs.PlanLemmas.{plan_lawful}
use Rattle.order_core.proofs.laws.plan_is_lawful.Goals as goal

pub returns : goal.returns
returns _ plan parts = plan_lawful plan parts

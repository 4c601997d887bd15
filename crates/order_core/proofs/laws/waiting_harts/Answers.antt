use Rattle.order_core.proofs.WaitLemmas.{blocked, free}
use Rattle.order_core.proofs.laws.waiting_harts.Goals as goal

pub returns-clause-blocked : goal.returns-clause-blocked
returns-clause-blocked _ c k h u need w met = blocked c k h u need w met

pub returns-clause-free : goal.returns-clause-free
returns-clause-free _ c k h told none = free c k h told none

use Rattle.core_sim.proofs.Following.{each_follows, entry_follows, as_many}
use Rattle.core_sim.proofs.Stepping.{prefix_within}
use Rattle.core_sim.proofs.laws.run_events.Goals as goal

pub returns-clause-each : goal.returns-clause-each
returns-clause-each c = each_follows

pub returns-clause-next : goal.returns-clause-next
returns-clause-next c = entry_follows

pub returns-clause-count : goal.returns-clause-count
returns-clause-count c = as_many

pub returns-clause-limit : goal.returns-clause-limit
returns-clause-limit c = prefix_within

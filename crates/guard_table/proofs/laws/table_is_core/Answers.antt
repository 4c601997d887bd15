use Rattle.guard_table.proofs.SeatLemmas.{opens, ends}
use Rattle.guard_table.proofs.laws.table_is_core.Goals as goal

pub returns-clause-opening : goal.returns-clause-opening
returns-clause-opening _ c law = opens c law

pub returns-clause-step : goal.returns-clause-step
returns-clause-step _ c s s' h act holds is =
    let to = is holds.core holds.represented in
    record { lawful = holds.lawful; core = to.0; represented = to.2 }

pub returns-clause-last : goal.returns-clause-last
returns-clause-last _ c s id v holds at all = ends c s holds id v at.0 at.1 all

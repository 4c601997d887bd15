use Rattle.idem_filter.proofs.SlotLemmas.{last_hits}
use Rattle.idem_filter.proofs.laws.last_check_hits.Goals as goal

pub returns : goal.returns
returns _ calls addr width = last_hits calls addr width

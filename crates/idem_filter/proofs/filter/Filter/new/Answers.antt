use Rattle.idem_filter.proofs.SlotLemmas.{none_hits}
use Rattle.idem_filter.proofs.filter.Filter.new.Goals as goal

pub returns-clause-none : goal.returns-clause-none
returns-clause-none c addr width = none_hits addr width

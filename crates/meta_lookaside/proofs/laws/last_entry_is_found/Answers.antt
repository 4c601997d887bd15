use Rattle.meta_lookaside.proofs.SlotLemmas.{last_is_found}
use Rattle.meta_lookaside.proofs.laws.last_entry_is_found.Goals as goal

pub returns : goal.returns
returns _ calls page = last_is_found calls page

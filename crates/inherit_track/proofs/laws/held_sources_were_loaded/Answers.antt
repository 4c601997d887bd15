use Rattle.inherit_track.proofs.CallLemmas.{held_was_loaded}
use Rattle.inherit_track.proofs.laws.held_sources_were_loaded.Goals as goal

pub returns : goal.returns
returns _ calls states lead r from is = held_was_loaded calls states lead r from is

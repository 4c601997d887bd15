use Rattle.shadow_frames.proofs.OpeningLemmas.{opened, states_are}
use Rattle.shadow_frames.proofs.laws.opening_represents.Goals as goal

pub returns-clause-represented : goal.returns-clause-represented
returns-clause-represented _ rules pages laws rising room = (opened rules laws pages rising room).represents

pub returns-clause-zeros : goal.returns-clause-zeros
returns-clause-zeros _ rules pages laws rising room word lt = (opened rules laws pages rising room).low word lt

pub returns-clause-states : goal.returns-clause-states
returns-clause-states _ rules = states_are rules

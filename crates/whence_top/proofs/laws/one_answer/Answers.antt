use Rattle.whence_top.proofs.Spelled.{same_pairs}
use Rattle.whence_top.proofs.Told.{one_text}
use Rattle.whence_top.proofs.laws.one_answer.Goals as goal

pub returns-clause-asked : goal.returns-clause-asked
returns-clause-asked c = λ words a b is too. same_pairs words a b is too

pub returns-clause-told : goal.returns-clause-told
returns-clause-told c = λ pairs bytes a b is too. one_text c.one_run.ensures.run pairs bytes a b is too

use Rattle.std.proofs.Common.{◌∙◌, inr}
use Rattle.turn_worker.proofs.laws.answers_tell.Goals as goal

pub returns-clause-done : goal.returns-clause-done
returns-clause-done _ n v w sound answer = answer.1.used.all ∙ sound.whole answer.1.ended

pub returns-clause-waiting : goal.returns-clause-waiting
returns-clause-waiting _ n u need seen v w answer = inr (u, need, seen, answer.2)

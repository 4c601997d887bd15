use Rattle.log_plan.proofs.PlanLemmas.{values_wide, words_wide}
use Rattle.log_plan.proofs.laws.wide_words.Goals as goal

pub returns-clause-words : goal.returns-clause-words
returns-clause-words _ rules log laws run i le w = words_wide rules laws log run i le w

pub returns-clause-values : goal.returns-clause-values
returns-clause-values _ rules log laws run h m i o listed = values_wide rules laws log run h m i o listed

use Rattle.log_plan.proofs.OpeningWords.{opening_length}
use Rattle.log_plan.proofs.PlanLemmas.{is, lawful}
use Rattle.log_plan.proofs.laws.plan_laws.Goals as goal

pub returns-clause-lawful : goal.returns-clause-lawful
returns-clause-lawful _ rules log laws run ordered few = lawful rules laws log run ordered few

pub returns-clause-size : goal.returns-clause-size
returns-clause-size _ rules log = opening_length rules log.pages

pub returns-clause-opening : goal.returns-clause-opening
returns-clause-opening _ rules log laws run = is rules laws log run

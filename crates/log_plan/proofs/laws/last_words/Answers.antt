use Rattle.log_plan.specs.Plans.{opening_list}
use Rattle.log_plan.proofs.PlanLemmas.{is, last_represents}
use Rattle.shadow_layout.proofs.LogLemmas.{moment}
use Rattle.log_plan.proofs.laws.last_words.Goals as goal

pub returns-clause-before : goal.returns-clause-before
returns-clause-before _ rules log laws run i le = (moment rules laws log run (opening_list rules log.pages) (is rules laws log run) i le).represents

pub returns-clause-last : goal.returns-clause-last
returns-clause-last _ rules log laws run words are = last_represents rules laws log run words are

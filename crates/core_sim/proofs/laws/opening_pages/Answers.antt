use Rattle.core_sim.proofs.Opening.{rises, few_pages}
use Rattle.core_sim.proofs.laws.opening_pages.Goals as goal

pub returns-clause-rising : goal.returns-clause-rising
returns-clause-rising c = rises

pub returns-clause-few : goal.returns-clause-few
returns-clause-few c = few_pages

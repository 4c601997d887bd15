use Rattle.order_core.specs.Core.{after_see, after_advertise}
use Rattle.guard_table.specs.Puts.{after_put}
use Rattle.guard_table.proofs.PutLemmas.{lands}
use Rattle.guard_table.proofs.StepLemmas as steps
use Rattle.guard_table.proofs.laws.word_steps_are_core_steps.Goals as goal

pub returns-clause-see : goal.returns-clause-see
returns-clause-see _ c law s id u v at inside other k r = (
  after_see k v.hart u,
  steps.see_makes c law s k r id v at.0 at.1 at.2 u inside other,
  steps.see_represents c law s k r id v at.0 at.1 at.2 u inside,
)

pub returns-clause-advertise : goal.returns-clause-advertise
returns-clause-advertise _ c law s id upto v at rises passed k r = (
  after_advertise k v.hart upto,
  steps.advertise_makes c law s k r id v at.0 at.1 upto rises passed,
  steps.advertise_represents c law s k r id v at.0 at.1 upto rises passed,
)

pub returns-clause-read : goal.returns-clause-read
returns-clause-read _ c law s id p v a at may k r = (
  k,
  steps.read_makes c law s k r id v at.0 at.1 p a may,
  steps.load_represents c law s k r id v at.0 at.1 a.what.word,
)

pub returns-clause-write : goal.returns-clause-write
returns-clause-write _ c law s id p v a put at next is k r = (
  _,
  steps.write_makes c law s k r id v at.0 at.1 p a next (after_put put) (lands c p a put is),
  steps.write_represents c law s k r id v at.0 at.1 p a next (after_put put) (lands c p a put is),
)

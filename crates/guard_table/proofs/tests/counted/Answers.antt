use Rattle.guard_table.proofs.CountLemmas.{two_words_lawful}
use Rattle.guard_table.proofs.tests.counted.Goals as goal

pub invariant_of-new : goal.invariant_of-new
invariant_of-new g c = record { few = c.requires; lawful = two_words_lawful c.args.count_to c.requires }

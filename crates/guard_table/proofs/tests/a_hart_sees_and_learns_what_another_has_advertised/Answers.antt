use Rattle.guard_table.proofs.TestPlanLemmas.{no_operations_lawful}
use Rattle.guard_table.proofs.tests.a_hart_sees_and_learns_what_another_has_advertised.Goals as goal

pub invariant_of-new : goal.invariant_of-new
invariant_of-new c _ = record { lawful = no_operations_lawful }

use Rattle.guard_table.specs.Seats.{seat_view}
use Rattle.guard_table.proofs.TestPlanLemmas.{may_write_low}
use Rattle.guard_table.proofs.tests.write_low.Goals as goal

pub write-requires-clause-may : goal.write-requires-clause-may
write-requires-clause-may c = may_write_low (seat_view c.args.seat.now) c.requires.fresh

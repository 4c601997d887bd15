use Rattle.std.proofs.Common.{◌∙◌}
use Rattle.guard_table.specs.Seats.{seat_view}
use Rattle.guard_table.proofs.TestPlanLemmas.{two_lanes_lawful, may_read_low, may_check_low}
use Rattle.guard_table.proofs.tests.flipped.Goals as goal

pub invariant_of-plan : goal.invariant_of-plan
invariant_of-plan g c = record { lawful = two_lanes_lawful }

pub read-late-requires-clause-may : goal.read-late-requires-clause-may
read-late-requires-clause-may g c = may_read_low (seat_view c.write_both.new.low) c.write_both.ensures.low

pub check_read-checked-requires-clause-may : goal.check_read-checked-requires-clause-may
check_read-checked-requires-clause-may g c = may_check_low (seat_view c.read-late.new.seat) (c.read-late.ensures.view ∙ c.write_both.ensures.low)

use Rattle.std.proofs.Common.{◌≡◌, drop}
use Rattle.guest_asm.specs.Rules.{statements_in}
use Rattle.guest_asm.specs.Jobs.{first_of, schedule_in}
use Rattle.guest_asm.proofs.build.schedule.Given as goal

abbrev pub invariant-rows : goal.invariant-rows
invariant-rows l = first_of schedule_in (statements_in (drop l.row-index l.rows)) ≡ first_of schedule_in (statements_in l.rows)

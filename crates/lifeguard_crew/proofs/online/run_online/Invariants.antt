use Rattle.guard_table.specs.Seats.{plan_of}
use Rattle.lifeguard_crew.proofs.online.run_online.Given as goal

abbrev pub ghosts-fed_as : goal.ghosts-fed_as
ghosts-fed_as g a = record { log = (g.P.Plan.planned (plan_of a.monitor.now)).log }

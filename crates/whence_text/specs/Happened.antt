-- The events of a run of a job, each with the address of its instruction.
use Rattle.std.specs.Prelude.{List, [], ◌∷◌}
use Rattle.core_sim.specs.declared.job.Job.{Job}
use Rattle.core_sim.specs.Entries.{Entry}
use Rattle.core_sim.specs.RunEvents.{events_of_entry}
use Rattle.core_sim.specs.Runs.{state_of_hart}
use Rattle.whence_trail.specs.declared.happening.Happening.{Happening}
use Rattle.whence_trail.specs.Happenings.{with_events}

-- the events of entries, the latest first: those of an entry come from the instruction at which their hart was before
abbrev pub happened : Job → List Entry → List Happening
happened job [] = []
happened job (e ∷ before) =
    with_events (λ hart. (state_of_hart job before hart).pc) (happened job before) (events_of_entry e)

-- A trail that follows the run of a job.
use Rattle.std.specs.Prelude.{ℕ, List, slice_index_or}
use Rattle.core_sim.specs.declared.hart.Standing.{Standing}
use Rattle.core_sim.specs.declared.job.Job.{Job}
use Rattle.core_sim.specs.Entries.{Entry}
use Rattle.core_sim.specs.Image.{MachineImage}
use Rattle.core_sim.specs.Runs.{IsRun}
use Rattle.core_sim.specs.Stands.{Stands}
use Rattle.core_sim.specs.Start.{standing_at}
use Rattle.whence_trail.specs.declared.trail.Pair.{Pair}
use Rattle.whence_trail.specs.declared.trail.Trail.{Trail}
use Rattle.whence_trail.specs.Answers.{Keeps}
use Rattle.whence_text.specs.Happened.{happened}

-- the machine is somewhere in the run of a job, and the trail kept its events so far
pub record IsFollowed (pairs : List Pair) (job : Job) (machine : MachineImage) (trail : Trail) : Type 0 where
  pub entries : List Entry
  pub stands : Stands job entries machine
  pub keeps : Keeps pairs (happened job entries) trail

-- the trail kept the events of the whole run
pub record IsFollowedWhole (pairs : List Pair) (job : Job) (trail : Trail) : Type 0 where
  pub entries : List Entry
  pub run : IsRun job entries
  pub keeps : Keeps pairs (happened job entries) trail

-- the address of the next instruction of a hart
abbrev pub pc_in : List Standing → ℕ → ℕ
pc_in harts hart = (slice_index_or harts hart (standing_at 0 0)).state.pc

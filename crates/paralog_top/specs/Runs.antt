-- A job that is listed, and one that is run to its end.
use Rattle.std.specs.Prelude.{◌≡◌, ℕ, List, length, map}
use Rattle.core_sim.specs.declared.hart.HartEnd.{HartEnd}
use Rattle.core_sim.specs.declared.hart.Standing.{Standing}
use Rattle.core_sim.specs.declared.job.Job.{Job}
use Rattle.core_sim.specs.Entries.{Entry, harts_after, output}
use Rattle.core_sim.specs.Image.{MachineImage}
use Rattle.core_sim.specs.Runs.{IsEnded, IsRun}
use Rattle.core_sim.specs.Stands.{Stands}
use Rattle.guest_asm.specs.Jobs.{IsJobText}
use Rattle.guest_asm.specs.Listing.{listing_of}
use Rattle.paralog_top.specs.RunText.{run_text}

-- the text lists the words of the job that the bytes spell
pub record IsListing (bytes text : List ℕ) : Type 0 where
  pub job : Job
  pub read : IsJobText bytes job
  pub told : text ≡ listing_of job

-- whether each hart goes on, and else how it has ended
abbrev pub ends_of : List Standing → List HartEnd
ends_of harts = map (λ hart. hart.end) harts

abbrev pub run_told : Job → List Entry → List ℕ
run_told job entries = run_text job.harts (length entries) (ends_of (harts_after job entries)) (output entries)

-- the text tells the run of a job
pub record IsJobTold (job : Job) (text : List ℕ) : Type 0 where
  pub entries : List Entry
  pub run : IsRun job entries
  pub told : text ≡ run_told job entries

-- the text tells the run of the job that the bytes spell
pub record IsRunTold (bytes text : List ℕ) : Type 0 where
  pub job : Job
  pub read : IsJobText bytes job
  pub told : IsJobTold job text

-- the machine is somewhere in the run of a job
pub record IsRunning (job : Job) (machine : MachineImage) : Type 0 where
  pub entries : List Entry
  pub stands : Stands job entries machine

-- the machine is at the end of the run of a job
pub record IsRunEnded (job : Job) (machine : MachineImage) : Type 0 where
  pub entries : List Entry
  pub stands : Stands job entries machine
  pub ended : IsEnded job entries

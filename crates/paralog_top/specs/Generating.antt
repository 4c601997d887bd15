-- `gen`: the run of a job that is drawn from a number.
use Rattle.std.specs.Prelude.{◌≡◌, ℕ, ◌<◌, ◌≤◌, ◌^◌, List}
use Rattle.core_sim.specs.declared.job.Job.{Job}
use Rattle.guest_asm.specs.Generated.{IsGenerated}
use Rattle.run_figures.specs.declared.counted.Figures.{Figures}
use Rattle.run_figures.specs.Summary.{AreFigures, summary_text}

-- a number below 2^32, and 1 to 1,000 actions a hart
pub record MayDraw (seed size : ℕ) : Type 0 where
  pub low : seed < 2 ^ 32
  pub some : 1 ≤ size
  pub few : size ≤ 1000

-- the text is the summary of the run of the job that is drawn from these numbers
pub record IsSummary (seed size : ℕ) (text : List ℕ) : Type 0 where
  pub job : Job
  pub drawn : IsGenerated seed size job
  pub figures : Figures
  pub are : AreFigures job figures
  pub told : text ≡ summary_text seed size figures

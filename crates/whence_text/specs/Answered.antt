-- The answers about the run of a job.
use Rattle.std.specs.Prelude.{◌≡◌, ℕ, List, map}
use Rattle.core_sim.specs.Entries.{Entry}
use Rattle.core_sim.specs.Runs.{IsRun}
use Rattle.guest_asm.specs.declared.read.LinedJob.{LinedJob}
use Rattle.whence_trail.specs.declared.trail.Pair.{Pair}
use Rattle.whence_trail.specs.Answers.{answer_of}
use Rattle.whence_text.specs.Happened.{happened}
use Rattle.whence_text.specs.Text.{whence_text}

-- the text has the answers to the pairs about the run of a job
pub record IsJobAnswered (pairs : List Pair) (lined : LinedJob) (text : List ℕ) : Type 0 where
  pub entries : List Entry
  pub run : IsRun lined.job entries
  pub text_is : text ≡ whence_text lined (map (answer_of (happened lined.job entries)) pairs)

-- What is told of events.
use Rattle.std.specs.Prelude.{ℕ, List}
use Rattle.guest_asm.specs.declared.read.LinedJob.{LinedJob}
use Rattle.guest_asm.specs.WordLines.{IsLinedJobText}
use Rattle.whence_trail.specs.declared.trail.Pair.{Pair}
use Rattle.whence_text.specs.Answered.{IsJobAnswered}

-- the text has the answers to the pairs about the run of the job that the bytes spell
pub record IsAnswer (pairs : List Pair) (bytes text : List ℕ) : Type 0 where
  pub lined : LinedJob
  pub read : IsLinedJobText bytes lined.job lined.lines.items
  pub told : IsJobAnswered pairs lined text

-- The line that each word of a text was read from.
use Rattle.std.specs.Prelude.{◌≡◌, ℕ, List, replicate, Ok}
use Rattle.std.specs.List.{flat_map}
use Rattle.core_sim.specs.declared.job.Job.{Job}
use Rattle.guest_asm.specs.Lines.{Meaning}
use Rattle.guest_asm.specs.Rules.{words_of, statements_of, labels_of}
use Rattle.guest_asm.specs.Jobs.{Placed, rows_of, passes, IsJobOfRows}

-- the line of a statement, once for each word that it puts into the text
abbrev pub lines_of_row : Placed → List ℕ
lines_of_row r = replicate (words_of r.section r.statement) r.line

-- the same of statements in their order
abbrev pub lines_of_rows : List Placed → List ℕ
lines_of_rows rows = flat_map lines_of_row rows

-- the text spells the job, and its words were read from these lines
pub record IsLinedJobText (bytes : List ℕ) (job : Job) (word_lines : List ℕ) : Type 0 where
  pub lines : List Meaning
  pub passed : passes bytes ≡ Ok lines
  pub job_of : IsJobOfRows (labels_of lines) (rows_of lines) (statements_of lines) job
  pub words_from : word_lines ≡ lines_of_rows (rows_of lines)

-- A run that is written as the text of its log, step by step.
use Rattle.std.specs.Prelude.{◌≡◌, ℕ, ◌++◌, List}
use Rattle.pl_base.specs.declared.layout.TheConstants.{BLOCK_BYTES}
use Rattle.pl_event.specs.declared.log.Line.{Line}
use Rattle.pl_event.specs.declared.log.Log.{Log}
use Rattle.log_grammar.specs.Spelling.{log_spelling}
use Rattle.log_text.specs.Writing.{log_of}
use Rattle.core_sim.specs.declared.job.Job.{Job}
use Rattle.core_sim.specs.Start.{start_runs}
use Rattle.run_record.specs.declared.recording.Recording.{Recording}
use Rattle.run_record.specs.Recording.{IsRecording}

-- a log with more lines at the end
abbrev pub with_lines : Log → List Line → Log
with_lines log more = record log { lines = log.lines ++ more }

-- the recording is somewhere in the run of the job, and the text is that of its lines so far
pub record IsWriting (job : Job) (recording : Recording) (text : List ℕ) : Type 0 where
  pub lines : List Line
  pub running : IsRecording job lines recording
  pub told : text ≡ log_spelling (log_of job.harts BLOCK_BYTES (start_runs job) lines)

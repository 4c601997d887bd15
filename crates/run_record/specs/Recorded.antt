-- The log that is recorded of a run.
use Rattle.std.specs.Prelude.{List}
use Rattle.pl_base.specs.declared.layout.TheConstants.{BLOCK_BYTES}
use Rattle.pl_event.specs.declared.log.Line.{Line}
use Rattle.pl_event.specs.declared.log.Log.{Log}
use Rattle.core_sim.specs.declared.job.Job.{Job}
use Rattle.core_sim.specs.Entries.{Entry}
use Rattle.core_sim.specs.RunEvents.{events_of_run}
use Rattle.core_sim.specs.Runs.{IsRun}
use Rattle.core_sim.specs.Start.{start_runs}
use Rattle.arc_capture.specs.Recorded.{AreRecorded, IsRecorded}

-- the lines that a recorder makes of the events of these entries, with blocks of 16 bytes
abbrev pub AreLinesOf : Job → List Entry → List Line → Type 0
AreLinesOf job entries lines = AreRecorded job.harts BLOCK_BYTES (events_of_run entries) lines

-- the log that a recorder makes of the run of a job, with blocks of 16 bytes and the pages of the start
pub record IsLogOfRun (job : Job) (log : Log) : Type 0 where
  pub entries : List Entry
  pub run : IsRun job entries
  pub recorded : IsRecorded job.harts BLOCK_BYTES (start_runs job) (events_of_run entries) log

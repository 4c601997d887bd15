-- A run that is counted step by step.
use Rattle.std.specs.Prelude.{ℕ, List, length}
use Rattle.pl_event.specs.declared.log.Line.{Line}
use Rattle.lifeguard.specs.Shadow.{state_of}
use Rattle.core_sim.specs.declared.job.Job.{Job}
use Rattle.core_sim.specs.Start.{start_runs}
use Rattle.run_record.specs.declared.recording.Recording.{Recording}
use Rattle.run_figures.specs.declared.counted.Figures.{Figures}
use Rattle.run_figures.specs.declared.tally.Tally.{Tally}
use Rattle.run_record.specs.Recording.{IsRecordedWhole, IsRecording}
use Rattle.run_figures.specs.Tallies.{HasTallied}

-- the recording is somewhere in the run of the job, and its lines so far were counted
pub record IsCounting (job : Job) (recording : Recording) (tally : Tally) : Type 0 where
  pub lines : List Line
  pub running : IsRecording job lines recording
  pub tallied : HasTallied job.harts (start_runs job) lines tally

-- the run has ended, and all its lines were counted
pub record IsCounted (job : Job) (recording : Recording) (tally : Tally) : Type 0 where
  pub lines : List Line
  pub whole : IsRecordedWhole job lines recording
  pub tallied : HasTallied job.harts (start_runs job) lines tally

-- what is told of a tally
abbrev pub told_figures : ℕ → Tally → Figures
told_figures steps tally = record {
  steps = steps;
  records = tally.records;
  arcs = tally.arcs;
  addr = length (state_of tally.addr.shadow).reports;
  taint = length (state_of tally.taint.shadow).reports;
  mem = length (state_of tally.mem.shadow).reports;
}

-- A run that is recorded step by step.
use Rattle.std.specs.Prelude.{◌≡◌, ◌+◌, ◌≤◌, All, List, length}
use Rattle.pl_base.specs.declared.layout.TheConstants.{BLOCK_BYTES, MAX_RECORDS}
use Rattle.pl_event.specs.declared.event.Event.{Event}
use Rattle.pl_event.specs.declared.log.Line.{Line}
use Rattle.pl_event.specs.Valid.{IsValidEvent}
use Rattle.core_sim.specs.declared.job.Job.{Job}
use Rattle.core_sim.specs.Entries.{Entry}
use Rattle.core_sim.specs.RunEvents.{events_of_run}
use Rattle.core_sim.specs.Runs.{IsRun}
use Rattle.core_sim.specs.Stands.{Stands}
use Rattle.arc_capture.specs.declared.recorder.Recorder.{Recorder}
use Rattle.arc_capture.specs.Recorder.{HasRecorded}
use Rattle.run_record.specs.declared.recording.Recording.{Recording}
use Rattle.run_record.specs.Recorded.{AreLinesOf}

-- the recorder has made these lines of these events
abbrev pub HasLines : Recorder → List Event → List Line → Type 0
HasLines recorder events lines = HasRecorded recorder.placer recorder.marker BLOCK_BYTES events lines

-- these events may be the next ones
pub record MayFeedAll (recorder : Recorder) (events : List Event) (lines : List Line) (more : List Event) : Type 0 where
  pub has : HasLines recorder events lines
  pub few : length events + length more ≤ MAX_RECORDS
  pub valid : All (λ event. IsValidEvent event recorder.placer.harts) more

-- the machine is somewhere in the run of the job, and these are the lines of its events so far
pub record IsRecording (job : Job) (lines : List Line) (recording : Recording) : Type 0 where
  pub entries : List Entry
  pub stands : Stands job entries recording.machine
  pub harts : recording.recorder.placer.harts ≡ job.harts
  pub has : HasLines recording.recorder (events_of_run entries) lines

-- the run has ended after so many steps, and these are all its lines
pub record IsRecordedWhole (job : Job) (lines : List Line) (recording : Recording) : Type 0 where
  pub entries : List Entry
  pub stands : Stands job entries recording.machine
  pub run : IsRun job entries
  pub recorded : AreLinesOf job entries lines

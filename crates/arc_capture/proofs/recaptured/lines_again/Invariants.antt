use Rattle.std.proofs.Common.{◌≡◌, take}
use Rattle.pl_event.specs.Numbers.{events_of}
use Rattle.arc_capture.specs.Recorder.{HasRecorded}
use Rattle.arc_capture.proofs.recaptured.lines_again.Given as goal

abbrev pub invariant-records : goal.invariant-records
invariant-records l = record {
  harts : l.recorder.placer.harts ≡ l.log.harts;
  has : HasRecorded l.recorder.placer l.recorder.marker l.block (events_of (take l.i l.log.lines)) l.lines;
}

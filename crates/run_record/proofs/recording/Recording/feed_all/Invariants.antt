use Rattle.std.proofs.Common.{◌≡◌, ◌++◌, List, take}
use Rattle.pl_event.specs.declared.event.Event.{Event}
use Rattle.pl_event.specs.declared.log.Line.{Line}
use Rattle.run_record.specs.Recording.{HasLines, MayFeedAll}
use Rattle.run_record.proofs.recording.Recording.feed_all.Given as goal

abbrev pub invariant-events : goal.invariant-events
invariant-events l = record {
  harts : l.self.recorder.placer.harts ≡ l.initial.self.recorder.placer.harts;
  machine : l.self.machine ≡ l.initial.self.machine;
  has : (before : List Event) (made : List Line) → MayFeedAll l.initial.self.recorder before made l.events → HasLines l.self.recorder (before ++ take l.i l.events) (made ++ l.lines.items);
}

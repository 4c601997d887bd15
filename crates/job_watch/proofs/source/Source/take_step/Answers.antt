use Rattle.std.proofs.Common.{◌≡◌, ◌++◌, List, sym, ◌∙◌}
use Rattle.pl_event.specs.declared.log.Line.{Line}
use Rattle.core_sim.specs.RunEvents.{events_of_run}
use Rattle.job_watch.proofs.Steps.{at_end, some_lines, stepped}
use Rattle.job_watch.proofs.source.Source.take_step.Goals as goal

pub returns-in-Ok-true-clause-at : goal.returns-in-Ok-true-clause-at
returns-in-Ok-true-clause-at c job log at is ok =
    let old = c.args.self.now in
    stepped job log at old.recording old.heads old.step.items old.handed is
    (c.run_logs.ensures.part job log (is.before ++ old.step.items) old.recording is.of_run is.recorded)
    c.next.new.self c.next.new.lines.items (c.in-Ok-true.ensures.more job (is.before ++ old.step.items) is.recorded (cc)) c.requires.none

pub returns-in-Ok-true-clause-some : goal.returns-in-Ok-true-clause-some
returns-in-Ok-true-clause-some c ok =
    let old = c.args.self.now in
    let job = c.requires.run.0 in
    let is = c.requires.run.3 in
    let made = is.before ++ old.step.items in
    let new = c.in-Ok-true.ensures.more job made is.recorded (cc) in
    let first = old.recording.recorder in
    let later = c.next.new.self.recorder in
    some_lines job made c.next.new.lines.items old.recording c.next.new.self is.recorded new
    (c.recorded_events.ensures.events first.placer.harts 16 (events_of_run is.recorded.entries) made (c.recorder_lines.ensures.lines first.placer first.marker 16 (events_of_run is.recorded.entries) made is.recorded.has))
    (c.recorded_events.ensures.events later.placer.harts 16 (events_of_run new.entries) (made ++ c.next.new.lines.items)
    (c.recorder_lines.ensures.lines later.placer later.marker 16 (events_of_run new.entries) (made ++ c.next.new.lines.items) new.has))
    (c.run_events.ensures.count is.recorded.entries) (c.run_events.ensures.count new.entries) (c.in-Ok-true.ensures.further (cc))

pub returns-in-Ok-false-clause-end : goal.returns-in-Ok-false-clause-end
returns-in-Ok-false-clause-end c job log at is ok =
    let old = c.args.self.now in
    let made = is.before ++ old.step.items in
    at_end job log at old.recording old.heads old.step.items old.handed is
    (c.run_logs.ensures.part job log made old.recording is.of_run is.recorded)
    (c.run_logs.ensures.whole job log made c.next.new.self is.of_run (c.in-Ok-false.ensures.whole job made is.recorded (cc))) c.requires.none

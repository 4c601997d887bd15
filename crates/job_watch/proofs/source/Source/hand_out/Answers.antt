use Rattle.std.proofs.Common.{◌≡◌, ◌≤◌, ◌++◌, List, length, sym}
use Rattle.pl_event.specs.declared.log.Line.{Line}
use Rattle.job_watch.specs.Sources.{IsAt}
use Rattle.job_watch.proofs.Steps.{at_index, first_line, handed_one, next_line}
use Rattle.job_watch.proofs.source.Source.hand_out.Goals as goal

pub fed-fed-requires-clause-hart : goal.fed-fed-requires-clause-hart
fed-fed-requires-clause-hart c = (next_line c.requires.run.0 c.requires.run.1 c.requires.run.2 c.args.self.now.recording c.args.self.now.heads c.args.self.now.step.items c.args.self.now.handed c.requires.run.3 (c.run_logs.ensures.part c.requires.run.0 c.requires.run.1 (c.requires.run.3.before ++ c.args.self.now.step.items) c.args.self.now.recording c.requires.run.3.of_run c.requires.run.3.recorded) c.index.result.now (at_index c.args.self.now.step.items c.args.self.now.handed c.index.result.now c.requires.more c.index.ensures) ((c.log_laws.ensures.formed c.requires.run.1).0 (c.recorded_runs.ensures.formed c.requires.run.0 c.requires.run.1 c.requires.run.3.recorded.stands.valid c.requires.run.3.of_run))).room.0

pub fed-fed-requires-clause-records : goal.fed-fed-requires-clause-records
fed-fed-requires-clause-records c = (next_line c.requires.run.0 c.requires.run.1 c.requires.run.2 c.args.self.now.recording c.args.self.now.heads c.args.self.now.step.items c.args.self.now.handed c.requires.run.3 (c.run_logs.ensures.part c.requires.run.0 c.requires.run.1 (c.requires.run.3.before ++ c.args.self.now.step.items) c.args.self.now.recording c.requires.run.3.of_run c.requires.run.3.recorded) c.index.result.now (at_index c.args.self.now.step.items c.args.self.now.handed c.index.result.now c.requires.more c.index.ensures) ((c.log_laws.ensures.formed c.requires.run.1).0 (c.recorded_runs.ensures.formed c.requires.run.0 c.requires.run.1 c.requires.run.3.recorded.stands.valid c.requires.run.3.of_run))).room.1

pub fed-fed-requires-clause-place : goal.fed-fed-requires-clause-place
fed-fed-requires-clause-place c = (next_line c.requires.run.0 c.requires.run.1 c.requires.run.2 c.args.self.now.recording c.args.self.now.heads c.args.self.now.step.items c.args.self.now.handed c.requires.run.3 (c.run_logs.ensures.part c.requires.run.0 c.requires.run.1 (c.requires.run.3.before ++ c.args.self.now.step.items) c.args.self.now.recording c.requires.run.3.of_run c.requires.run.3.recorded) c.index.result.now (at_index c.args.self.now.step.items c.args.self.now.handed c.index.result.now c.requires.more c.index.ensures) ((c.log_laws.ensures.formed c.requires.run.1).0 (c.recorded_runs.ensures.formed c.requires.run.0 c.requires.run.1 c.requires.run.3.recorded.stands.valid c.requires.run.3.of_run))).room.2

pub fed-fed-requires-clause-events : goal.fed-fed-requires-clause-events
fed-fed-requires-clause-events c = (next_line c.requires.run.0 c.requires.run.1 c.requires.run.2 c.args.self.now.recording c.args.self.now.heads c.args.self.now.step.items c.args.self.now.handed c.requires.run.3 (c.run_logs.ensures.part c.requires.run.0 c.requires.run.1 (c.requires.run.3.before ++ c.args.self.now.step.items) c.args.self.now.recording c.requires.run.3.of_run c.requires.run.3.recorded) c.index.result.now (at_index c.args.self.now.step.items c.args.self.now.handed c.index.result.now c.requires.more c.index.ensures) ((c.log_laws.ensures.formed c.requires.run.1).0 (c.recorded_runs.ensures.formed c.requires.run.0 c.requires.run.1 c.requires.run.3.recorded.stands.valid c.requires.run.3.of_run))).room.3

pub pass-requires-clause-hart : goal.pass-requires-clause-hart
pass-requires-clause-hart c = (next_line c.requires.run.0 c.requires.run.1 c.requires.run.2 c.args.self.now.recording c.args.self.now.heads c.args.self.now.step.items c.args.self.now.handed c.requires.run.3 (c.run_logs.ensures.part c.requires.run.0 c.requires.run.1 (c.requires.run.3.before ++ c.args.self.now.step.items) c.args.self.now.recording c.requires.run.3.of_run c.requires.run.3.recorded) c.index.result.now (at_index c.args.self.now.step.items c.args.self.now.handed c.index.result.now c.requires.more c.index.ensures) ((c.log_laws.ensures.formed c.requires.run.1).0 (c.recorded_runs.ensures.formed c.requires.run.0 c.requires.run.1 c.requires.run.3.recorded.stands.valid c.requires.run.3.of_run))).room.0

pub pass-requires-clause-records : goal.pass-requires-clause-records
pass-requires-clause-records c = (next_line c.requires.run.0 c.requires.run.1 c.requires.run.2 c.args.self.now.recording c.args.self.now.heads c.args.self.now.step.items c.args.self.now.handed c.requires.run.3 (c.run_logs.ensures.part c.requires.run.0 c.requires.run.1 (c.requires.run.3.before ++ c.args.self.now.step.items) c.args.self.now.recording c.requires.run.3.of_run c.requires.run.3.recorded) c.index.result.now (at_index c.args.self.now.step.items c.args.self.now.handed c.index.result.now c.requires.more c.index.ensures) ((c.log_laws.ensures.formed c.requires.run.1).0 (c.recorded_runs.ensures.formed c.requires.run.0 c.requires.run.1 c.requires.run.3.recorded.stands.valid c.requires.run.3.of_run))).room.1

pub pass-requires-clause-place : goal.pass-requires-clause-place
pass-requires-clause-place c = (next_line c.requires.run.0 c.requires.run.1 c.requires.run.2 c.args.self.now.recording c.args.self.now.heads c.args.self.now.step.items c.args.self.now.handed c.requires.run.3 (c.run_logs.ensures.part c.requires.run.0 c.requires.run.1 (c.requires.run.3.before ++ c.args.self.now.step.items) c.args.self.now.recording c.requires.run.3.of_run c.requires.run.3.recorded) c.index.result.now (at_index c.args.self.now.step.items c.args.self.now.handed c.index.result.now c.requires.more c.index.ensures) ((c.log_laws.ensures.formed c.requires.run.1).0 (c.recorded_runs.ensures.formed c.requires.run.0 c.requires.run.1 c.requires.run.3.recorded.stands.valid c.requires.run.3.of_run))).room.2

pub pass-requires-clause-events : goal.pass-requires-clause-events
pass-requires-clause-events c = (next_line c.requires.run.0 c.requires.run.1 c.requires.run.2 c.args.self.now.recording c.args.self.now.heads c.args.self.now.step.items c.args.self.now.handed c.requires.run.3 (c.run_logs.ensures.part c.requires.run.0 c.requires.run.1 (c.requires.run.3.before ++ c.args.self.now.step.items) c.args.self.now.recording c.requires.run.3.of_run c.requires.run.3.recorded) c.index.result.now (at_index c.args.self.now.step.items c.args.self.now.handed c.index.result.now c.requires.more c.index.ensures) ((c.log_laws.ensures.formed c.requires.run.1).0 (c.recorded_runs.ensures.formed c.requires.run.0 c.requires.run.1 c.requires.run.3.recorded.stands.valid c.requires.run.3.of_run))).room.3

pub returns-clause-first : goal.returns-clause-first
returns-clause-first c job log at is =
    let start = c.run_logs.ensures.part job log (is.before ++ c.args.self.now.step.items) c.args.self.now.recording is.of_run is.recorded in
    let run = (c.log_laws.ensures.formed log).0 (c.recorded_runs.ensures.formed job log is.recorded.stands.valid is.of_run) in
    let here = at_index c.args.self.now.step.items c.args.self.now.handed c.index.result.now c.requires.more c.index.ensures in
    let next = next_line job log at c.args.self.now.recording c.args.self.now.heads c.args.self.now.step.items c.args.self.now.handed is start c.index.result.now here run in
    first_line job log at c.args.self.now.recording c.args.self.now.heads c.args.self.now.step.items c.args.self.now.handed is start c.index.result.now here run c.fed-fed.result (c.fed-fed.ensures log.harts log.lines at run.0.flow is.tells next.next)

pub returns-clause-at : goal.returns-clause-at
returns-clause-at c job log at is =
    let start = c.run_logs.ensures.part job log (is.before ++ c.args.self.now.step.items) c.args.self.now.recording is.of_run is.recorded in
    let run = (c.log_laws.ensures.formed log).0 (c.recorded_runs.ensures.formed job log is.recorded.stands.valid is.of_run) in
    let here = at_index c.args.self.now.step.items c.args.self.now.handed c.index.result.now c.requires.more c.index.ensures in
    let next = next_line job log at c.args.self.now.recording c.args.self.now.heads c.args.self.now.step.items c.args.self.now.handed is start c.index.result.now here run in
    handed_one job log at c.args.self.now.recording c.args.self.now.heads c.args.self.now.step.items c.args.self.now.handed is start c.requires.more (c.recording_lines.ensures.few job (is.before ++ c.args.self.now.step.items) c.args.self.now.recording is.recorded) c.pass.new.self
    (c.pass.ensures log.harts log.lines at run.0.flow is.tells next.next)

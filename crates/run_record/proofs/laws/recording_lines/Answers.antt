use Rattle.std.proofs.Common.{◌≤◌, ℕ, List, length, refl, subst, arith}
use Rattle.pl_event.specs.declared.event.Event.{Event}
use Rattle.pl_event.specs.declared.log.Log.{Log}
use Rattle.log_text.specs.Writing.{log_of}
use Rattle.core_sim.specs.RunEvents.{events_of_run}
use Rattle.core_sim.specs.Start.{start_runs}
use Rattle.arc_capture.specs.Recorded.{AreRecorded, IsRecorded}
use Rattle.run_record.proofs.Logs.{opening, few_lines}
use Rattle.run_record.proofs.Runs.{all_follow}
use Rattle.run_record.proofs.laws.recording_lines.Goals as goal

pub returns-clause-run : goal.returns-clause-run
returns-clause-run c job lines recording r =
    let events : List Event = events_of_run r.entries in
    let log : Log = log_of job.harts 16 (start_runs job) lines in
    let recorder = recording.recorder in
    let are : AreRecorded job.harts 16 events lines = subst (λ (h : ℕ). AreRecorded h 16 events lines) r.harts (c.recorder_lines.ensures.lines recorder.placer recorder.marker 16 events lines r.has) in
    let recorded : IsRecorded job.harts 16 (start_runs job) events log = record { harts = refl; block = refl; pages = refl; lines = are } in
    let valid = r.stands.valid in
    let each = c.run_events.ensures.each job r.entries valid r.stands.prefix in
    c.recorded_events.ensures.run job.harts 16 (start_runs job) events log (opening job log events valid recorded each (c.opening_pages.ensures.rising job valid) (c.opening_pages.ensures.few job valid)) (all_follow job events each) recorded

pub returns-clause-few : goal.returns-clause-few
returns-clause-few c job lines recording r =
    let events : List Event = events_of_run r.entries in
    let log : Log = log_of job.harts 16 (start_runs job) lines in
    let recorder = recording.recorder in
    let are : AreRecorded job.harts 16 events lines = subst (λ (h : ℕ). AreRecorded h 16 events lines) r.harts (c.recorder_lines.ensures.lines recorder.placer recorder.marker 16 events lines r.has) in
    let recorded : IsRecorded job.harts 16 (start_runs job) events log = record { harts = refl; block = refl; pages = refl; lines = are } in
    let valid = r.stands.valid in
    let each = c.run_events.ensures.each job r.entries valid r.stands.prefix in
    let steps : length r.entries ≤ job.steps = c.run_events.ensures.limit job r.entries r.stands.prefix in
    few_lines job log events valid recorded each (omega (arith, c.run_events.ensures.count r.entries, steps, valid.few_steps))

use Rattle.std.proofs.Common.{◌≡◌, ℕ, ◌≤◌, ◌<◌, ◌++◌, List, [], refl, sym, ap, ◌∙◌, subst}
use Rattle.std.specs.Prelude.{All}
use Rattle.pl_event.specs.declared.event.Event.{Event}
use Rattle.pl_event.specs.declared.log.Line.{Line}
use Rattle.pl_event.specs.declared.log.Log.{Log}
use Rattle.core_sim.specs.Entries.{Entry}
use Rattle.core_sim.specs.RunEvents.{events_of_run}
use Rattle.core_sim.specs.Runs.{HasRun, IsPart}
use Rattle.core_sim.specs.Start.{start_runs}
use Rattle.conflict_alerts.specs.Placing.{placed}
use Rattle.arc_capture.specs.Recorded.{AreRecorded}
use Rattle.arc_capture.proofs.Kept.{one_kept}
use Rattle.run_log.proofs.Existing.{EventsOn, RecordedOn, all_inside, are_recorded, events_on, recorded_on}
use Rattle.run_log.proofs.laws.run_logs.Goals as goal

pub returns-clause-log : goal.returns-clause-log
returns-clause-log c job valid =
    let run : HasRun job = c.has_run.ensures.run job in
    let events : List Event = events_of_run run.entries in
    let inside = all_inside job events (c.run_events.ensures.each job run.entries valid run.run.prefix) in
    let lines : RecordedOn job.harts 16 [] events [] = are_recorded job.harts 16 events valid.few_harts inside in
    record {
      log = record { harts = job.harts; block = 16; pages = start_runs job; lines = lines.more };
      of_run = record {
        entries = run.entries;
        run = run.run;
        recorded = record { harts = refl; block = refl; pages = refl; lines = lines.are };
      };
    }

pub returns-clause-part : goal.returns-clause-part
returns-clause-part c job log lines recording of r =
    let part : IsPart r.entries of.entries = c.has_run.ensures.part job of.entries r.entries of.run r.stands.prefix in
    let on : EventsOn r.entries part.later = events_on r.entries part.later in
    let all : events_of_run of.entries ≡ events_of_run r.entries ++ on.more = ap events_of_run part.run_is ∙ on.are in
    let inside = subst (λ (es : List Event). All (λ event. event.hart < job.harts) es) all
    (all_inside job (events_of_run of.entries) (c.run_events.ensures.each job of.entries r.stands.valid of.run.prefix)) in
    let recorder = recording.recorder in
    let are : AreRecorded job.harts 16 (events_of_run r.entries) lines = subst (λ (h : ℕ). AreRecorded h 16 (events_of_run r.entries) lines) r.harts
    (c.recorder_lines.ensures.lines recorder.placer recorder.marker 16 (events_of_run r.entries) lines r.has) in
    let more : RecordedOn job.harts 16 (events_of_run r.entries) on.more lines = recorded_on job.harts 16 (events_of_run r.entries) on.more lines r.stands.valid.few_harts inside are in
    record {
      later = more.more;
      all_are = one_kept 16 (placed job.harts (events_of_run of.entries)) log.lines (lines ++ more.more) of.recorded.lines
          (subst (λ (es : List Event). AreRecorded job.harts 16 es (lines ++ more.more)) (sym all) more.are);
    }

pub returns-clause-whole : goal.returns-clause-whole
returns-clause-whole c job log lines recording of w =
    let same : w.entries ≡ of.entries = c.one_run.ensures.run job w.entries of.entries w.run of.run in
    one_kept 16 (placed job.harts (events_of_run of.entries)) lines log.lines
    (subst (λ (es : List Entry). AreRecorded job.harts 16 (events_of_run es) lines) same w.recorded) of.recorded.lines

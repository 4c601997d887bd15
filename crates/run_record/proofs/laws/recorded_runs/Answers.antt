use Rattle.std.proofs.Common.{◌≡◌, ◌≤◌, ◌∙◌, List, length, sym, subst, arith}
use Rattle.pl_event.specs.declared.event.Event.{Event}
use Rattle.core_sim.specs.Entries.{Entry}
use Rattle.core_sim.specs.RunEvents.{events_of_run}
use Rattle.core_sim.specs.Start.{start_runs}
use Rattle.arc_capture.specs.Recorded.{AreRecorded}
use Rattle.run_record.proofs.Logs.{same_log, inside, opening, few_lines, short}
use Rattle.run_record.proofs.Runs.{all_follow}
use Rattle.run_record.proofs.laws.recorded_runs.Goals as goal

pub returns-clause-one : goal.returns-clause-one
returns-clause-one c job a b x y =
    let same : x.entries ≡ y.entries = c.one_run.ensures.run job x.entries y.entries x.run y.run in
    let lines = c.recorded_events.ensures.one job.harts 16 (events_of_run y.entries) a.lines b.lines
    (subst (λ (entries : List Entry). AreRecorded job.harts 16 (events_of_run entries) a.lines) same x.recorded.lines) y.recorded.lines in
    same_log a b (x.recorded.harts ∙ sym y.recorded.harts) (x.recorded.block ∙ sym y.recorded.block) (x.recorded.pages ∙ sym y.recorded.pages) lines

pub returns-clause-formed : goal.returns-clause-formed
returns-clause-formed c job log valid of =
    let events : List Event = events_of_run of.entries in
    let each = c.run_events.ensures.each job of.entries valid of.run.prefix in
    let begins = opening job log events valid of.recorded each (c.opening_pages.ensures.rising job valid) (c.opening_pages.ensures.few job valid) in
    let steps : length of.entries ≤ job.steps = c.run_events.ensures.limit job of.entries of.run.prefix in
    let few : length events ≤ 250000 = omega (arith, c.run_events.ensures.count of.entries, steps, valid.few_steps) in
    (c.log_laws.ensures.formed log).1 (
      c.recorded_events.ensures.run job.harts 16 (start_runs job) events log begins (all_follow job events each) of.recorded,
      few_lines job log events valid of.recorded each few,
    )

pub returns-clause-ordered : goal.returns-clause-ordered
returns-clause-ordered c job log valid of =
    let events : List Event = events_of_run of.entries in
    c.recorded_events.ensures.ordered job.harts 16 (start_runs job) events log (inside job log events valid of.recorded (c.run_events.ensures.each job of.entries valid of.run.prefix)) of.recorded

pub returns-clause-short : goal.returns-clause-short
returns-clause-short c job log valid of =
    let events : List Event = events_of_run of.entries in
    let steps : length of.entries ≤ job.steps = c.run_events.ensures.limit job of.entries of.run.prefix in
    let few : length events ≤ 250000 = omega (arith, c.run_events.ensures.count of.entries, steps, valid.few_steps) in
    short job log events valid of.recorded (c.run_events.ensures.each job of.entries valid of.run.prefix) (returns-clause-formed c job log valid of) few

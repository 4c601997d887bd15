use Rattle.std.proofs.Common.{◌∙◌}
use Rattle.core_sim.specs.RunEvents.{events_of_run}
use Rattle.run_figures.proofs.Tallying.{told_as}
use Rattle.run_figures.proofs.counted.run_figures.Goals as goal

pub returns : goal.returns
returns c =
    let job = c.args.job.now in
    let counted = c.in_ok-count_run.ensures in
    let whole = counted.whole in
    record {
      entries = whole.entries;
      run = whole.run;
      lines = counted.lines;
      recorded = whole.recorded;
      told = c.told.ensures ∙ told_as job whole.entries counted.lines c.count_run.new.tally c.steps_taken.result (c.steps_taken.ensures ∙ whole.stands.steps) counted.tallied
          (c.recorded_events.ensures.events job.harts 16 (events_of_run whole.entries) counted.lines whole.recorded);
    }

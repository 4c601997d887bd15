use Rattle.std.proofs.Common.{ap, ◌∙◌}
use Rattle.paralog_top.specs.Results.{verdict_of}
use Rattle.paralog_top.proofs.monitor.found.Goals as goal

pub text_of-requires : goal.text_of-requires
text_of-requires g c =
    let has = c.run_logs.ensures.log c.args.job.now c.requires.valid in
    (has.log, c.requires.watched has.log has.of_run)

pub returns : goal.returns
returns g c =
    let has = c.run_logs.ensures.log c.args.job.now c.requires.valid in
    let formed = c.recorded_runs.ensures.formed c.args.job.now has.log c.requires.valid has.of_run in
    let told = c.in_ok-text.ensures has.log record {
      run = ((c.log_laws.ensures.formed has.log).0 formed).0;
      size = has.of_run.recorded.harts;
      found = c.requires.watched has.log has.of_run;
    } in
    record {
      log = has.log;
      of_run = has.of_run;
      result = record { told = told.text; marked = c.verdict_of-verdict.ensures ∙ ap verdict_of told.clean };
    }

use Rattle.std.proofs.Common.{[], ◌++◌, List, length, sym, ap, subst, arith}
use Rattle.pl_event.specs.declared.log.Line.{Line}
use Rattle.run_record.specs.Recording.{IsRecording}
use Rattle.job_watch.proofs.source.Source.new.Goals as goal

pub returns : goal.returns
returns c log of = record {
  of_run = of;
  before = [];
  recorded = subst (λ (step : List Line). IsRecording c.args.job.now step c.in_ok-new.field-0) (sym c.new-3.ensures.items) c.in_ok-new.ensures;
  within = omega arith;
  place = omega arith;
  few = omega arith;
  tells = c.new-2.ensures log.lines;
}

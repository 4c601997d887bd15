use Rattle.std.proofs.Common.{Ok, ap, ◌∙◌}
use Rattle.run_record.proofs.upgrade.upgrade_lines.Goals as goal

pub lines-preserved : goal.lines-preserved
lines-preserved g c = record {
  going = λ more limit began u. c.in-Ok.ensures.more limit began (c.lines.invariant.going c.lines-test.true limit began u) (ap Ok more);
  over = λ done limit began u. c.in-Ok.ensures.over limit began (c.lines.invariant.going c.lines-test.true limit began u) (ap Ok done);
  quiet = c.in-Ok.ensures.faults ∙ c.lines.invariant.quiet;
}

pub returns-in-Err-clause-end : goal.returns-in-Err-clause-end
returns-in-Err-clause-end g c = λ limit began u. c.in-Err.ensures.end limit began (c.lines.invariant.going c.lines-test.true limit began u)

pub returns-clause-ok : goal.returns-clause-ok
returns-clause-ok g c = c.lines.invariant.over c.lines-test.false

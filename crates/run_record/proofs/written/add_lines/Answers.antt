use Rattle.std.proofs.Common.{◌∙◌, take}
use Rattle.run_record.specs.Writing.{with_lines}
use Rattle.run_record.proofs.Writing.{one_added, all_added}
use Rattle.run_record.proofs.written.add_lines.Goals as goal

pub loop-line-preserved : goal.loop-line-preserved
loop-line-preserved c log before =
    let lines = c.args.lines.now in
    let i = c.loop-line.line-index in
    c.in_ok-add_line.ensures (with_lines log (take i lines)) (c.loop-line.invariant log before) ∙ one_added log lines i c.line-item.result c.loop-line-test.true c.line-item.is

pub returns : goal.returns
returns c log before = c.loop-line.invariant log before ∙ all_added log c.args.lines.now c.loop-line.line-index c.loop-line-test.false

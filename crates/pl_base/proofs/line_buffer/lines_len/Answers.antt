use Rattle.std.proofs.Common.{◌-◌}
use Rattle.pl_base.proofs.Lines.{ends_line-take}
use Rattle.pl_base.proofs.line_buffer.lines_len.Goals as goal

pub returns-then-bytes-at-eq10-clause-lines : goal.returns-then-bytes-at-eq10-clause-lines
returns-then-bytes-at-eq10-clause-lines c = ends_line-take c.args.bytes.now (c.loop-at.at - 1) c.if-bytes-at-eq10.true

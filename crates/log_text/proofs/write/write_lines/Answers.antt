use Rattle.std.proofs.Common.{arith}
use Rattle.std.proofs.lemmas.Grind.{common_steps}
use Rattle.log_text.proofs.WriteLemmas.{more_lines}
use Rattle.log_text.proofs.write.write_lines.Goals as goal

pub lines-preserved : goal.lines-preserved
lines-preserved c =
    let more = more_lines c.args.lines.now c.lines.i c.get.result c.get.ensures in
    grind (arith, common_steps, more, c.lines.invariant)

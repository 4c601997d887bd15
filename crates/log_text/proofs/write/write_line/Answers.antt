use Rattle.log_grammar.specs.Spelling.{points_from}
use Rattle.log_text.proofs.WriteLemmas.{row_joined}
use Rattle.std.proofs.lemmas.Grind.{common_steps}
use Rattle.std.proofs.Common.{arith}
use Rattle.log_text.proofs.write.write_line.Goals as goal

pub returns : goal.returns
returns c = let e = row_joined c.args.line.now.what (points_from 0 c.args.line.now.arcs) in grind (arith, common_steps, e)

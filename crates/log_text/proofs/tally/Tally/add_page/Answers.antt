use Rattle.std.proofs.Common.{◌+◌, arith}
use Rattle.log_text.proofs.AddedLines.{Keeps-page, page_inside}
use Rattle.log_text.proofs.tally.Tally.add_page.Goals as goal

pub returns-clause-keeps : goal.returns-clause-keeps
returns-clause-keeps c = λ before keeps sound.
    Keeps-page c.args.self.now before c.args.run (c.from.result + c.from-2.result) c.mark.new.self keeps (omega (arith, c.from.ensures, c.from-2.ensures))
    (c.mark.ensures (page_inside c.args.self.now.harts before c.args.run sound))

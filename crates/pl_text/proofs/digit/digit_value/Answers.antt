use Rattle.std.proofs.Common.{arith}
use Rattle.pl_text.proofs.Digits.{found, every}
use Rattle.pl_text.proofs.digit.digit_value.Goals as goal

pub returns-clause-found : goal.returns-clause-found
returns-clause-found c = λ small. found c.args.byte c.from.result (omega arith) c.from.ensures small

pub returns-clause-every : goal.returns-clause-every
returns-clause-every c = λ value small glyph. every c.args.byte c.from.result value (omega arith) c.from.ensures small glyph

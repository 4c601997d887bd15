use Rattle.std.proofs.Common.{arith}
use Rattle.rv_isa.proofs.Unique.{only_word}
use Rattle.rv_isa.proofs.encoding.encode.Goals as goal

pub returns-clause-only : goal.returns-clause-only
returns-clause-only c = λ word small is. only_word word c.word_of.result c.args.i.now small (omega arith) is c.word_of.ensures

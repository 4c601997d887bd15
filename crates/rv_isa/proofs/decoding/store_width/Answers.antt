use Rattle.std.proofs.Common.{sym, arith}
use Rattle.rv_isa.proofs.Lookup.{at_funct3, no_store}
use Rattle.rv_isa.proofs.decoding.store_width.Goals as goal

pub returns-in-0 : goal.returns-in-0
returns-in-0 c = sym (at_funct3 c.args.word 35 0 c.requires (omega arith))

pub returns-in-1 : goal.returns-in-1
returns-in-1 c = sym (at_funct3 c.args.word 35 1 c.requires (omega arith))

pub returns-in-2 : goal.returns-in-2
returns-in-2 c = sym (at_funct3 c.args.word 35 2 c.requires (omega arith))

pub returns-in_default : goal.returns-in_default
returns-in_default c = sym (no_store c.args.word c.funct3.result c.requires (omega arith) (omega arith) (omega arith) (omega arith))

use Rattle.std.proofs.Common.{sym, arith}
use Rattle.rv_isa.proofs.Lookup.{at_funct3, no_load}
use Rattle.rv_isa.proofs.decoding.load_width.Goals as goal

pub returns-in-0 : goal.returns-in-0
returns-in-0 c = sym (at_funct3 c.args.word 3 0 c.requires (omega arith))

pub returns-in-1 : goal.returns-in-1
returns-in-1 c = sym (at_funct3 c.args.word 3 1 c.requires (omega arith))

pub returns-in-2 : goal.returns-in-2
returns-in-2 c = sym (at_funct3 c.args.word 3 2 c.requires (omega arith))

pub returns-in-4 : goal.returns-in-4
returns-in-4 c = sym (at_funct3 c.args.word 3 4 c.requires (omega arith))

pub returns-in-5 : goal.returns-in-5
returns-in-5 c = sym (at_funct3 c.args.word 3 5 c.requires (omega arith))

pub returns-in_default : goal.returns-in_default
returns-in_default c = sym (no_load c.args.word c.funct3.result c.requires (omega arith) (omega arith) (omega arith) (omega arith) (omega arith) (omega arith))

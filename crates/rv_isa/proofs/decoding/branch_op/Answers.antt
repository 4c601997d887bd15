use Rattle.std.proofs.Common.{sym, arith}
use Rattle.rv_isa.proofs.Lookup.{at_funct3, no_branch}
use Rattle.rv_isa.proofs.decoding.branch_op.Goals as goal

pub returns-in-0 : goal.returns-in-0
returns-in-0 c = sym (at_funct3 c.args.word 99 0 c.requires (omega arith))

pub returns-in-1 : goal.returns-in-1
returns-in-1 c = sym (at_funct3 c.args.word 99 1 c.requires (omega arith))

pub returns-in-4 : goal.returns-in-4
returns-in-4 c = sym (at_funct3 c.args.word 99 4 c.requires (omega arith))

pub returns-in-5 : goal.returns-in-5
returns-in-5 c = sym (at_funct3 c.args.word 99 5 c.requires (omega arith))

pub returns-in-6 : goal.returns-in-6
returns-in-6 c = sym (at_funct3 c.args.word 99 6 c.requires (omega arith))

pub returns-in-7 : goal.returns-in-7
returns-in-7 c = sym (at_funct3 c.args.word 99 7 c.requires (omega arith))

pub returns-in_default : goal.returns-in_default
returns-in_default c = sym (no_branch c.args.word c.funct3.result c.requires (omega arith) (omega arith) (omega arith) (omega arith) (omega arith) (omega arith) (omega arith))

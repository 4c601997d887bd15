use Rattle.std.proofs.Common.{sym, arith}
use Rattle.rv_isa.proofs.Lookup.{at_funct7, no_second, no_reg_op}
use Rattle.rv_isa.proofs.decoding.reg_op.Goals as goal

pub returns-in-0-funct3 : goal.returns-in-0-funct3
returns-in-0-funct3 c = sym (at_funct7 c.args.word 51 0 32 c.requires (omega arith) (omega arith))

pub returns-in-5 : goal.returns-in-5
returns-in-5 c = sym (at_funct7 c.args.word 51 5 32 c.requires (omega arith) (omega arith))

pub returns-in_default-funct3 : goal.returns-in_default-funct3
returns-in_default-funct3 c = sym (no_second c.args.word c.funct3.result c.requires (omega arith) (omega arith) (omega arith) (omega arith))

pub returns-in_default : goal.returns-in_default
returns-in_default c = sym (no_reg_op c.args.word c.funct7.result c.requires (omega arith) (omega arith) (omega arith) (omega arith))

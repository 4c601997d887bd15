use Rattle.std.proofs.Common.{sym, arith}
use Rattle.rv_isa.proofs.Lookup.{at_funct3, at_funct7, no_shift_left, no_shift_right}
use Rattle.rv_isa.proofs.decoding.imm_op.Goals as goal

pub returns-in-0 : goal.returns-in-0
returns-in-0 c = sym (at_funct3 c.args.word 19 0 c.requires (omega arith))

pub returns-in-2 : goal.returns-in-2
returns-in-2 c = sym (at_funct3 c.args.word 19 2 c.requires (omega arith))

pub returns-in-3 : goal.returns-in-3
returns-in-3 c = sym (at_funct3 c.args.word 19 3 c.requires (omega arith))

pub returns-in-4 : goal.returns-in-4
returns-in-4 c = sym (at_funct3 c.args.word 19 4 c.requires (omega arith))

pub returns-in-6 : goal.returns-in-6
returns-in-6 c = sym (at_funct3 c.args.word 19 6 c.requires (omega arith))

pub returns-in-7 : goal.returns-in-7
returns-in-7 c = sym (at_funct3 c.args.word 19 7 c.requires (omega arith))

pub returns-in-0-funct7 : goal.returns-in-0-funct7
returns-in-0-funct7 c = sym (at_funct7 c.args.word 19 1 0 c.requires (omega arith) (omega arith))

pub returns-in_default-funct7 : goal.returns-in_default-funct7
returns-in_default-funct7 c = sym (no_shift_left c.args.word c.funct7.result c.requires (omega arith) (omega arith) (omega arith))

pub returns-in-0-funct7-2 : goal.returns-in-0-funct7-2
returns-in-0-funct7-2 c = sym (at_funct7 c.args.word 19 5 0 c.requires (omega arith) (omega arith))

pub returns-in-32 : goal.returns-in-32
returns-in-32 c = sym (at_funct7 c.args.word 19 5 32 c.requires (omega arith) (omega arith))

pub returns-in_default-funct7-2 : goal.returns-in_default-funct7-2
returns-in_default-funct7-2 c = sym (no_shift_right c.args.word c.funct7-in_default.result c.requires (omega arith) (omega arith) (omega arith) (omega arith))

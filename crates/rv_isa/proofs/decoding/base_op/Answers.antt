use Rattle.std.proofs.Common.{arith}
use Rattle.rv_isa.proofs.Lookup.{at_funct7}
use Rattle.rv_isa.proofs.decoding.base_op.Goals as goal

pub returns-in-0 : goal.returns-in-0
returns-in-0 c = at_funct7 c.args.word 51 0 0 c.requires.opcode (omega arith) c.requires.funct7

pub returns-in-1 : goal.returns-in-1
returns-in-1 c = at_funct7 c.args.word 51 1 0 c.requires.opcode (omega arith) c.requires.funct7

pub returns-in-2 : goal.returns-in-2
returns-in-2 c = at_funct7 c.args.word 51 2 0 c.requires.opcode (omega arith) c.requires.funct7

pub returns-in-3 : goal.returns-in-3
returns-in-3 c = at_funct7 c.args.word 51 3 0 c.requires.opcode (omega arith) c.requires.funct7

pub returns-in-4 : goal.returns-in-4
returns-in-4 c = at_funct7 c.args.word 51 4 0 c.requires.opcode (omega arith) c.requires.funct7

pub returns-in-5 : goal.returns-in-5
returns-in-5 c = at_funct7 c.args.word 51 5 0 c.requires.opcode (omega arith) c.requires.funct7

pub returns-in-6 : goal.returns-in-6
returns-in-6 c = at_funct7 c.args.word 51 6 0 c.requires.opcode (omega arith) c.requires.funct7

pub returns-in_default : goal.returns-in_default
returns-in_default c = at_funct7 c.args.word 51 7 0 c.requires.opcode (omega arith) c.requires.funct7

use Rattle.std.proofs.Common.{◌-◌, sym, arith}
use Rattle.rv_isa.proofs.Lookup.{at_funct3, no_fence, made_fence, none}
use Rattle.rv_isa.proofs.decoding.fence.Goals as goal

pub returns-in-0 : goal.returns-in-0
returns-in-0 c = made_fence c.args.word (c.args.word - 15) (at_funct3 c.args.word 15 0 c.requires (omega arith)) (omega arith)

pub returns-in_default : goal.returns-in_default
returns-in_default c = sym (none c.args.word (no_fence c.args.word c.funct3.result c.requires (omega arith) (omega arith)))

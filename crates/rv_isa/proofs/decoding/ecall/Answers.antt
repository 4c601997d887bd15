use Rattle.std.proofs.Common.{sym, refl, arith}
use Rattle.rv_isa.specs.Fields.{bits}
use Rattle.rv_isa.specs.Table.{ecall}
use Rattle.rv_isa.proofs.Lookup.{at_upper, no_ecall, made, none}
use Rattle.rv_isa.proofs.decoding.ecall.Goals as goal

pub returns-then-word-eq115 : goal.returns-then-word-eq115
returns-then-word-eq115 c = sym (made c.args.word ecall (at_upper c.args.word 115 0 c.requires (omega arith)))

pub returns-else-word-eq115 : goal.returns-else-word-eq115
returns-else-word-eq115 c = sym (none c.args.word (no_ecall c.args.word (bits 7 25 c.args.word) c.requires refl (omega arith)))

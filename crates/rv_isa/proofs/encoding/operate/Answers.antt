use Rattle.std.proofs.Common.{sym, ◌∙◌}
use Rattle.rv_isa.specs.Table.{op}
use Rattle.rv_isa.proofs.Lookup.{made_op}
use Rattle.rv_isa.proofs.Writing.{in_three}
use Rattle.rv_isa.proofs.encoding.operate.Goals as goal

pub returns : goal.returns
returns c =
    let word = c.pack.ensures in
    let select = in_three (op c.args.op) c.pack.result 51 c.selection-funct3.result.0 c.selection-funct3.result.1 c.selection-funct3.ensures.fixed word.opcode word.funct3 word.funct7 in
    sym (made_op c.pack.result c.args.op c.args.rd c.args.rs1 c.args.rs2 select (sym (word.rd ∙ c.from.ensures)) (sym (word.rs1 ∙ c.from-2.ensures)) (sym (word.rs2 ∙ c.from-3.ensures)))

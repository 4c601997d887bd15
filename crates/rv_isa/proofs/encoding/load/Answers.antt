use Rattle.std.proofs.Common.{sym, ◌∙◌, w32}
use Rattle.std.proofs.lemmas.Int.{to_z-of_z}
use Rattle.rv_isa.specs.Table.{load}
use Rattle.rv_isa.proofs.Lookup.{made_load}
use Rattle.rv_isa.proofs.Writing.{in_two}
use Rattle.rv_isa.proofs.encoding.load.Goals as goal

pub returns : goal.returns
returns c =
    let word = c.with_immediate.ensures in
    let select = in_two (load c.args.width) c.with_immediate.result 3 c.load_funct3.result c.load_funct3.ensures.selection word.opcode word.funct3 in
    sym (made_load c.with_immediate.result c.args.width c.args.rd c.args.rs1 c.args.imm select (sym word.rd) (sym word.rs1) (sym (word.imm ∙ to_z-of_z w32 c.args.imm c.ranges.imm)))

use Rattle.std.proofs.Common.{sym, ◌∙◌, w32}
use Rattle.std.proofs.lemmas.Int.{to_z-of_z}
use Rattle.rv_isa.specs.Table.{store}
use Rattle.rv_isa.proofs.Lookup.{made_store}
use Rattle.rv_isa.proofs.Writing.{in_two}
use Rattle.rv_isa.proofs.encoding.store.Goals as goal

pub returns : goal.returns
returns c =
    let word = c.store_word.ensures in
    let select = in_two (store c.args.width) c.store_word.result 35 c.store_funct3.result c.store_funct3.ensures.selection word.opcode word.funct3 in
    sym (made_store c.store_word.result c.args.width c.args.rs2 c.args.rs1 c.args.imm select (sym word.rs2) (sym word.rs1) (sym (word.imm ∙ to_z-of_z w32 c.args.imm c.ranges.imm)))

use Rattle.std.proofs.Common.{sym, ◌∙◌, w32}
use Rattle.std.proofs.lemmas.Int.{to_z-of_z}
use Rattle.rv_isa.specs.Table.{branch}
use Rattle.rv_isa.proofs.Lookup.{made_branch}
use Rattle.rv_isa.proofs.Writing.{in_two}
use Rattle.rv_isa.proofs.encoding.branch.Goals as goal

pub returns : goal.returns
returns c =
    let word = c.branch_word.ensures in
    let select = in_two (branch c.args.op) c.branch_word.result 99 c.branch_funct3.result c.branch_funct3.ensures.selection word.opcode word.funct3 in
    sym (made_branch c.branch_word.result c.args.op c.args.rs1 c.args.rs2 c.args.off select (sym word.rs1) (sym word.rs2) (sym (word.off ∙ to_z-of_z w32 c.args.off c.ranges.off)))

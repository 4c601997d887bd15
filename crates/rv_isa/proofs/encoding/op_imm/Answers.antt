use Rattle.std.proofs.Common.{sym, refl, ◌∙◌, w32}
use Rattle.std.proofs.lemmas.Int.{to_z-of_z}
use Rattle.rv_isa.specs.Table.{op_imm}
use Rattle.rv_isa.specs.declared.instruction.ImmOp.TheVariants.{Addi, Slti, Sltiu, Xori, Ori, Andi, Slli, Srli, Srai}
use Rattle.rv_isa.proofs.Lookup.{made_op_imm}
use Rattle.rv_isa.proofs.Writing.{in_two, in_three}
use Rattle.rv_isa.proofs.encoding.op_imm.Goals as goal

pub returns-in-Addi : goal.returns-in-Addi
returns-in-Addi c =
    let word = c.with_immediate.ensures in
    let select = in_two (op_imm Addi) c.with_immediate.result 19 0 refl word.opcode word.funct3 in
    rw c.in-Addi.is (sym (made_op_imm c.with_immediate.result Addi c.args.rd c.args.rs1 c.args.imm select (sym word.rd) (sym word.rs1) (sym (word.imm ∙ to_z-of_z w32 c.args.imm c.ranges.imm))))

pub returns-in-Slti : goal.returns-in-Slti
returns-in-Slti c =
    let word = c.with_immediate-in-Slti.ensures in
    let select = in_two (op_imm Slti) c.with_immediate-in-Slti.result 19 2 refl word.opcode word.funct3 in
    rw c.in-Slti.is (sym (made_op_imm c.with_immediate-in-Slti.result Slti c.args.rd c.args.rs1 c.args.imm select (sym word.rd) (sym word.rs1) (sym (word.imm ∙ to_z-of_z w32 c.args.imm c.ranges.imm))))

pub returns-in-Sltiu : goal.returns-in-Sltiu
returns-in-Sltiu c =
    let word = c.with_immediate-in-Sltiu.ensures in
    let select = in_two (op_imm Sltiu) c.with_immediate-in-Sltiu.result 19 3 refl word.opcode word.funct3 in
    rw c.in-Sltiu.is (sym (made_op_imm c.with_immediate-in-Sltiu.result Sltiu c.args.rd c.args.rs1 c.args.imm select (sym word.rd) (sym word.rs1) (sym (word.imm ∙ to_z-of_z w32 c.args.imm c.ranges.imm))))

pub returns-in-Xori : goal.returns-in-Xori
returns-in-Xori c =
    let word = c.with_immediate-in-Xori.ensures in
    let select = in_two (op_imm Xori) c.with_immediate-in-Xori.result 19 4 refl word.opcode word.funct3 in
    rw c.in-Xori.is (sym (made_op_imm c.with_immediate-in-Xori.result Xori c.args.rd c.args.rs1 c.args.imm select (sym word.rd) (sym word.rs1) (sym (word.imm ∙ to_z-of_z w32 c.args.imm c.ranges.imm))))

pub returns-in-Ori : goal.returns-in-Ori
returns-in-Ori c =
    let word = c.with_immediate-in-Ori.ensures in
    let select = in_two (op_imm Ori) c.with_immediate-in-Ori.result 19 6 refl word.opcode word.funct3 in
    rw c.in-Ori.is (sym (made_op_imm c.with_immediate-in-Ori.result Ori c.args.rd c.args.rs1 c.args.imm select (sym word.rd) (sym word.rs1) (sym (word.imm ∙ to_z-of_z w32 c.args.imm c.ranges.imm))))

pub returns-in-Andi : goal.returns-in-Andi
returns-in-Andi c =
    let word = c.with_immediate-in-Andi.ensures in
    let select = in_two (op_imm Andi) c.with_immediate-in-Andi.result 19 7 refl word.opcode word.funct3 in
    rw c.in-Andi.is (sym (made_op_imm c.with_immediate-in-Andi.result Andi c.args.rd c.args.rs1 c.args.imm select (sym word.rd) (sym word.rs1) (sym (word.imm ∙ to_z-of_z w32 c.args.imm c.ranges.imm))))

pub returns-in-Slli : goal.returns-in-Slli
returns-in-Slli c =
    let word = c.shift.ensures in
    let select = in_three (op_imm Slli) c.shift.result 19 1 0 refl word.opcode word.funct3 word.funct7 in
    rw c.in-Slli.is (sym (made_op_imm c.shift.result Slli c.args.rd c.args.rs1 c.args.imm select (sym word.rd) (sym word.rs1) (sym (word.amount ∙ to_z-of_z w32 c.args.imm c.ranges.imm))))

pub returns-in-Srli : goal.returns-in-Srli
returns-in-Srli c =
    let word = c.shift-in-Srli.ensures in
    let select = in_three (op_imm Srli) c.shift-in-Srli.result 19 5 0 refl word.opcode word.funct3 word.funct7 in
    rw c.in-Srli.is (sym (made_op_imm c.shift-in-Srli.result Srli c.args.rd c.args.rs1 c.args.imm select (sym word.rd) (sym word.rs1) (sym (word.amount ∙ to_z-of_z w32 c.args.imm c.ranges.imm))))

pub returns-in-Srai : goal.returns-in-Srai
returns-in-Srai c =
    let word = c.shift-in-Srai.ensures in
    let select = in_three (op_imm Srai) c.shift-in-Srai.result 19 5 32 refl word.opcode word.funct3 word.funct7 in
    rw c.in-Srai.is (sym (made_op_imm c.shift-in-Srai.result Srai c.args.rd c.args.rs1 c.args.imm select (sym word.rd) (sym word.rs1) (sym (word.amount ∙ to_z-of_z w32 c.args.imm c.ranges.imm))))

use Rattle.std.proofs.Common.{sym, refl, ◌∙◌, rules, w32}
use Rattle.std.specs.Int.RustNames.{FitsSigned}
use Rattle.std.proofs.lemmas.Int.{to_z-of_z}
use Rattle.rv_isa.specs.Table.{jalr, ecall}
use Rattle.rv_isa.proofs.Lookup.{at_opcode, made, made_lui, made_auipc, made_jal, made_jalr}
use Rattle.rv_isa.proofs.Writing.{in_two, fence_again}
use Rattle.rv_isa.proofs.encoding.word_of.Goals as goal

pub returns-in-Lui : goal.returns-in-Lui
returns-in-Lui c =
    let word = c.upper.ensures in
    rw c.in-Lui.is (sym (made_lui c.upper.result c.in-Lui.rd c.in-Lui.imm (at_opcode c.upper.result 55 word.opcode) (sym word.rd) (sym word.imm)))

pub returns-in-Auipc : goal.returns-in-Auipc
returns-in-Auipc c =
    let word = c.upper-in-Auipc.ensures in
    rw c.in-Auipc.is (sym (made_auipc c.upper-in-Auipc.result c.in-Auipc.rd c.in-Auipc.imm (at_opcode c.upper-in-Auipc.result 23 word.opcode) (sym word.rd) (sym word.imm)))

pub returns-in-Jal : goal.returns-in-Jal
returns-in-Jal c =
    let fits : FitsSigned w32 c.in-Jal.off = search rules in
    let word = c.jump.ensures in
    rw c.in-Jal.is (sym (made_jal c.jump.result c.in-Jal.rd c.in-Jal.off (at_opcode c.jump.result 111 word.opcode) (sym word.rd) (sym (word.off ∙ to_z-of_z w32 c.in-Jal.off fits))))

pub returns-in-Jalr : goal.returns-in-Jalr
returns-in-Jalr c =
    let fits : FitsSigned w32 c.in-Jalr.imm = search rules in
    let word = c.with_immediate.ensures in
    rw c.in-Jalr.is (sym (made_jalr c.with_immediate.result c.in-Jalr.rd c.in-Jalr.rs1 c.in-Jalr.imm (in_two jalr c.with_immediate.result 103 0 refl word.opcode word.funct3) (sym word.rd) (sym word.rs1) (sym (word.imm ∙ to_z-of_z w32 c.in-Jalr.imm fits))))

pub returns-in-Fence : goal.returns-in-Fence
returns-in-Fence c = rw c.in-Fence.is (sym (fence_again c.in-Fence.bits (rw c.in-Fence.is at c.requires)))

pub returns-in-Ecall : goal.returns-in-Ecall
returns-in-Ecall c = rw c.in-Ecall.is (made 115 ecall (at_opcode 115 115 refl))

use Rattle.std.proofs.Common.{◌/◌, ◌%◌, sym, refl, ◌∙◌, arith, rules, w32}
use Rattle.std.specs.Int.RustNames.{FitsSigned}
use Rattle.std.specs.Int.{cast_signed, cast_unsigned}
use Rattle.std.proofs.lemmas.Int.{to_z-of_z}
use Rattle.rv_isa.proofs.Lookup.{at_opcode, no_opcode, made_lui, made_auipc, made_jal, none}
use Rattle.rv_isa.proofs.decoding.by_opcode.Goals as goal

pub returns-in-55 : goal.returns-in-55
returns-in-55 c = made_lui c.args.word c.rd.result (c.args.word / 4096) (at_opcode c.args.word 55 (omega arith)) c.rd.ensures (omega arith)

pub returns-in-23 : goal.returns-in-23
returns-in-23 c = made_auipc c.args.word c.rd-in-23.result (c.args.word / 4096) (at_opcode c.args.word 23 (omega arith)) c.rd-in-23.ensures (omega arith)

pub returns-in-111 : goal.returns-in-111
returns-in-111 c =
    let fits : FitsSigned w32 c.immediate_j.result = search rules in
    made_jal c.args.word c.rd-in-111.result (cast_signed w32 (cast_unsigned w32 c.immediate_j.result)) (at_opcode c.args.word 111 (omega arith)) c.rd-in-111.ensures (to_z-of_z w32 c.immediate_j.result fits ∙ c.immediate_j.ensures)

pub returns-in_default : goal.returns-in_default
returns-in_default c = sym (none c.args.word (no_opcode c.args.word (c.args.word % 128) refl (omega arith) (omega arith) (omega arith) (omega arith) (omega arith) (omega arith) (omega arith) (omega arith) (omega arith) (omega arith) (omega arith)))

use Rattle.std.proofs.Common.{sym, ◌∙◌, rules, w32}
use Rattle.std.specs.Int.RustNames.{FitsSigned}
use Rattle.std.specs.Int.{cast_signed, cast_unsigned}
use Rattle.std.proofs.lemmas.Int.{to_z-of_z}
use Rattle.rv_isa.proofs.Lookup.{made_op_imm, none}
use Rattle.rv_isa.proofs.decoding.op_imm.Goals as goal

pub returns-in_err-op : goal.returns-in_err-op
returns-in_err-op c = c.from_residual.ensures ∙ sym (none c.args.word (sym c.in_err-op.ensures))

pub returns : goal.returns
returns c =
    let fits : FitsSigned w32 c.operand.result = search rules in
    made_op_imm c.args.word c.in_ok-op.op c.rd.result c.rs1.result (cast_signed w32 (cast_unsigned w32 c.operand.result)) (sym c.in_ok-op.ensures) c.rd.ensures c.rs1.ensures (to_z-of_z w32 c.operand.result fits ∙ c.operand.ensures)

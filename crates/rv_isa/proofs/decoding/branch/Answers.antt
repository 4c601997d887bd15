use Rattle.std.proofs.Common.{sym, ◌∙◌, rules, w32}
use Rattle.std.specs.Int.RustNames.{FitsSigned}
use Rattle.std.specs.Int.{cast_signed, cast_unsigned}
use Rattle.std.proofs.lemmas.Int.{to_z-of_z}
use Rattle.rv_isa.proofs.Lookup.{made_branch, none}
use Rattle.rv_isa.proofs.decoding.branch.Goals as goal

pub returns-in_err-op : goal.returns-in_err-op
returns-in_err-op c = c.from_residual.ensures ∙ sym (none c.args.word (sym c.in_err-op.ensures))

pub returns : goal.returns
returns c =
    let fits : FitsSigned w32 c.immediate_b.result = search rules in
    made_branch c.args.word c.in_ok-op.op c.rs1.result c.rs2.result (cast_signed w32 (cast_unsigned w32 c.immediate_b.result)) (sym c.in_ok-op.ensures) c.rs1.ensures c.rs2.ensures (to_z-of_z w32 c.immediate_b.result fits ∙ c.immediate_b.ensures)

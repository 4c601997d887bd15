use Rattle.std.proofs.Common.{sym, ◌∙◌, rules, w32}
use Rattle.std.specs.Int.RustNames.{FitsSigned}
use Rattle.std.specs.Int.{cast_signed, cast_unsigned}
use Rattle.std.proofs.lemmas.Int.{to_z-of_z}
use Rattle.rv_isa.proofs.Lookup.{made_load, none}
use Rattle.rv_isa.proofs.decoding.load.Goals as goal

pub returns-in_err-width : goal.returns-in_err-width
returns-in_err-width c = c.from_residual.ensures ∙ sym (none c.args.word (sym c.in_err-width.ensures))

pub returns : goal.returns
returns c =
    let fits : FitsSigned w32 c.immediate_i.result = search rules in
    made_load c.args.word c.in_ok-width.width c.rd.result c.rs1.result (cast_signed w32 (cast_unsigned w32 c.immediate_i.result)) (sym c.in_ok-width.ensures) c.rd.ensures c.rs1.ensures (to_z-of_z w32 c.immediate_i.result fits ∙ c.immediate_i.ensures)

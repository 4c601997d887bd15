use Rattle.std.proofs.Common.{sym, ◌∙◌, arith, rules, w32}
use Rattle.std.specs.Int.RustNames.{FitsSigned}
use Rattle.std.specs.Int.{cast_signed, cast_unsigned}
use Rattle.std.proofs.lemmas.Int.{to_z-of_z}
use Rattle.rv_isa.proofs.Lookup.{at_funct3, no_jalr, made_jalr, none}
use Rattle.rv_isa.proofs.decoding.jalr.Goals as goal

pub returns-in-0 : goal.returns-in-0
returns-in-0 c =
    let fits : FitsSigned w32 c.immediate_i.result = search rules in
    made_jalr c.args.word c.rd.result c.rs1.result (cast_signed w32 (cast_unsigned w32 c.immediate_i.result)) (at_funct3 c.args.word 103 0 c.requires (omega arith)) c.rd.ensures c.rs1.ensures (to_z-of_z w32 c.immediate_i.result fits ∙ c.immediate_i.ensures)

pub returns-in_default : goal.returns-in_default
returns-in_default c = sym (none c.args.word (no_jalr c.args.word c.funct3.result c.requires (omega arith) (omega arith)))

use Rattle.std.proofs.Common.{◌∙◌}
use Rattle.std.proofs.lemmas.Result.{IfOk-weaker}
use Rattle.rv_isa.proofs.Texts.{registers_text}
use Rattle.rv_isa.proofs.listing.with_registers.Goals as goal

pub returns : goal.returns
returns c = IfOk-weaker c.format.result _ _ (λ shown is. is ∙ registers_text c.args.name.now c.args.rd c.args.rs1 c.args.rs2) c.format.ensures.ok

use Rattle.std.proofs.Common.{◌∙◌}
use Rattle.std.proofs.lemmas.Result.{IfOk-weaker}
use Rattle.rv_isa.proofs.Texts.{upper_text}
use Rattle.rv_isa.proofs.listing.with_upper.Goals as goal

pub returns : goal.returns
returns c = IfOk-weaker c.format.result _ _ (λ shown is. is ∙ upper_text c.args.name.now c.args.rd c.args.imm) c.format.ensures.ok

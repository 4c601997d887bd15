use Rattle.std.proofs.Common.{◌∙◌, w32}
use Rattle.std.proofs.lemmas.Result.{IfOk-weaker}
use Rattle.std.proofs.lemmas.Int.{to_z-of_z}
use Rattle.rv_isa.proofs.Texts.{number_text}
use Rattle.rv_isa.proofs.listing.with_number.Goals as goal

pub returns : goal.returns
returns c = IfOk-weaker c.format.result _ _ (λ shown is. is ∙ number_text c.args.name.now c.args.first c.args.second _ c.args.number (to_z-of_z w32 c.args.number c.ranges.number)) c.format.ensures.ok

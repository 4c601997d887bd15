use Rattle.std.proofs.Common.{◌∙◌, w32}
use Rattle.std.proofs.lemmas.Result.{IfOk-weaker}
use Rattle.std.proofs.lemmas.Int.{to_z-of_z}
use Rattle.rv_isa.proofs.Texts.{offset_text}
use Rattle.rv_isa.proofs.listing.with_offset.Goals as goal

pub returns : goal.returns
returns c = IfOk-weaker c.format.result _ _ (λ shown is. is ∙ offset_text c.args.name.now c.args.rd _ c.args.off (to_z-of_z w32 c.args.off c.ranges.off)) c.format.ensures.ok

use Rattle.std.proofs.Common.{◌∙◌, w32}
use Rattle.std.proofs.lemmas.Result.{IfOk-weaker}
use Rattle.std.proofs.lemmas.Int.{to_z-of_z}
use Rattle.rv_isa.proofs.Texts.{address_text}
use Rattle.rv_isa.proofs.listing.with_address.Goals as goal

pub returns : goal.returns
returns c = IfOk-weaker c.format.result _ _ (λ shown is. is ∙ address_text c.args.name.now c.args.moved c.args.base _ c.args.imm (to_z-of_z w32 c.args.imm c.ranges.imm)) c.format.ensures.ok

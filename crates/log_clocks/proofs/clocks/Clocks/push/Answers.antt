use Rattle.std.proofs.Common.{ℕ, ◌<◌, ◌++◌, List, [], ◌∷◌, length, arith, ap, ◌∙◌}
use Rattle.log_clocks.proofs.SlotLists.{slots-here, slots-other, slots-read}
use Rattle.log_clocks.proofs.Keeping.{kept_anyway}
use Rattle.log_clocks.proofs.clocks.Clocks.push.Goals as goal

pub returns-in_err-push-clause-others : goal.returns-in_err-push-clause-others
returns-in_err-push-clause-others c u other = slots-other c.args.self.now.slots.items c.args.hart u _ other

pub returns-clause-added : goal.returns-clause-added
returns-clause-added c =
    let low : c.args.hart < length c.args.self.now.slots.items = omega (arith, c.args.self.now.eight) in
    let was = slots-read c.args.self.now.slots.items c.args.hart c.index_mut.result.now low c.index_mut.ensures.value in
    slots-here c.args.self.now.slots.items c.args.hart _ low ∙ (c.in_ok-push.ensures.items ∙ ap (λ (xs : List ℕ). xs ++ c.args.slot ∷ []) was)

pub returns-clause-others : goal.returns-clause-others
returns-clause-others c u other = slots-other c.args.self.now.slots.items c.args.hart u _ other

pub returns-in_err-push-clause-err : goal.returns-in_err-push-clause-err
returns-in_err-push-clause-err c = kept_anyway c.from_residual.result _ (
    let low : c.args.hart < length c.args.self.now.slots.items = omega (arith, c.args.self.now.eight) in
    let was = slots-read c.args.self.now.slots.items c.args.hart c.index_mut.result.now low c.index_mut.ensures.value in
    slots-here c.args.self.now.slots.items c.args.hart _ low ∙ (c.in_err-push.ensures.items ∙ was))

use Rattle.std.proofs.Common.{ℕ, ◌++◌, ap, ◌∙◌}
use Rattle.core_sim.specs.Draws.{drawn}
use Rattle.guest_asm.specs.Generated.{action_at}
use Rattle.guest_asm.proofs.Generating.{actions-more, draws-more}
use Rattle.guest_asm.proofs.generator.Drawing.add_actions.Goals as goal

pub actions-preserved : goal.actions-preserved
actions-preserved c =
    let x = c.args.self.now.x in
    let done = c.actions.done in
    record {
      draws = draws-more x done c.add_action.new.self.x (c.in_ok-add_action.ensures.draws ∙ ap (λ (y : ℕ). drawn (drawn y)) c.actions.invariant.draws);
      code = actions-more x done c.args.self.now.code.items c.actions.self.code.items c.add_action.new.self.code.items c.actions.invariant.code
          (c.in_ok-add_action.ensures.code ∙ ap (λ (y : ℕ). c.actions.self.code.items ++ action_at y 0) c.actions.invariant.draws);
    }

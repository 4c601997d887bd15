use Rattle.std.proofs.Common.{◌≡◌, ◌++◌, ◌*◌}
use Rattle.std.specs.List.{flat_map, range_with_len}
use Rattle.core_sim.specs.Draws.{drawn_after}
use Rattle.guest_asm.specs.Generated.{action_at}
use Rattle.guest_asm.proofs.generator.Drawing.add_actions.Given as goal

-- so many actions are drawn
abbrev pub invariant-actions : goal.invariant-actions
invariant-actions l = record {
  draws : l.self.x ≡ drawn_after l.fn.self.x (2 * l.done);
  code : l.self.code.items ≡ l.fn.self.code.items ++ flat_map (action_at l.fn.self.x) (range_with_len 0 l.done);
}

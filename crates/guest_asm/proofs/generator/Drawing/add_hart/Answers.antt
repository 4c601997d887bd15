use Rattle.guest_asm.proofs.Generated.{hart-grown}
use Rattle.guest_asm.proofs.generator.Drawing.add_hart.Goals as goal

pub returns-clause-grown : goal.returns-clause-grown
returns-clause-grown c =
    hart-grown c.add_setup.new.self.x c.args.z c.args.self.now.code.items c.add_setup.new.self.code.items c.add_actions.new.self.code.items c.add_finish.new.self.code.items
    c.in_ok-add_setup.ensures.code c.in_ok-add_actions.ensures.code c.in_ok-add_finish.ensures.code

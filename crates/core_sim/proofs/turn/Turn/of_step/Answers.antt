use Rattle.std.proofs.Common.{◌≡◌, ◌&&◌, nat_lt, true, refl, ◌∙◌, sym}
use Rattle.std.proofs.lemmas.Bool.{and_parts}
use Rattle.core_sim.specs.Harts.{live_harts, is_among_live}
use Rattle.core_sim.proofs.Lives.{some_live, within_live}
use Rattle.core_sim.proofs.turn.Turn.of_step.Goals as goal

pub returns-then-goes_on : goal.returns-then-goes_on
returns-then-goes_on c =
    let holds : (nat_lt 0 c.args.self.now.left && is_among_live (live_harts c.args.harts.now) c.args.self.now.hart) ≡ true = sym c.goes_on.ensures ∙ c.if-goes_on.true in
    let live = (and_parts _ _ holds).1 in
    record { turn_is = rw holds refl; live = some_live _ _ live; within = within_live _ _ live }

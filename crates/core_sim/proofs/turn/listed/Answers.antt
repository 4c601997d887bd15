use Rattle.std.proofs.Common.{◌≡◌, true, ◌∙◌, sym, get_or}
use Rattle.core_sim.specs.Harts.{live_harts, is_among_live}
use Rattle.core_sim.specs.declared.job.Item.{Item}
use Rattle.core_sim.proofs.Lives.{listed_here, some_live, within_live}
use Rattle.core_sim.proofs.turn.listed.Goals as goal

pub returns-then-is_live : goal.returns-then-is_live
returns-then-is_live c =
    let d : Item = record { hart = 0; count = 0 } in
    let live : is_among_live (live_harts c.args.harts.now) (get_or c.args.items.now c.loop-next.next d).hart ≡ true = sym c.is_live.ensures ∙ c.if-is_live.true in
    record {
      turn_is = sym (c.loop-next.invariant ∙ listed_here c.args.items.now c.loop-next.next d (live_harts c.args.harts.now) c.loop-next-test.true live);
      live = some_live _ _ live;
      within = within_live _ _ live;
    }

use Rattle.shadow_frames.specs.Frames.{map_page}
use Rattle.list_plan.proofs.FillLemmas.{fills_next}
use Rattle.list_plan.proofs.filler.Filler.map_pages.Goals as goal

pub loop-i-preserved : goal.loop-i-preserved
loop-i-preserved c = fills_next (map_page c.args.filling) c.args.self.now c.loop-i.self c.map_page.new.self c.args.page c.loop-i.i c.loop-i.invariant c.in_ok-map_page.ensures

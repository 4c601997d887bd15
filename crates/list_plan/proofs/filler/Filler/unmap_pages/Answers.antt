use Rattle.shadow_frames.specs.Frames.{unmap_page}
use Rattle.list_plan.proofs.FillLemmas.{fills_next}
use Rattle.list_plan.proofs.filler.Filler.unmap_pages.Goals as goal

pub loop-i-preserved : goal.loop-i-preserved
loop-i-preserved c = fills_next unmap_page c.args.self.now c.loop-i.self c.unmap_page.new.self c.args.page c.loop-i.i c.loop-i.invariant c.in_ok-unmap_page.ensures

use Rattle.shadow_frames.specs.Frames.{pages_from, unmap_page}
use Rattle.list_plan.specs.inner.Fills.{Fills, words_of}
use Rattle.list_plan.proofs.filler.Filler.unmap_pages.Given as goal

abbrev pub invariant-loop-i : goal.invariant-loop-i
invariant-loop-i l = Fills l.initial.self l.self (pages_from unmap_page (words_of l.initial.self) l.page l.i)

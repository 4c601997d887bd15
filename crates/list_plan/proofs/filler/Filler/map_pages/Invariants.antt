use Rattle.shadow_frames.specs.Frames.{map_page, pages_from}
use Rattle.list_plan.specs.inner.Fills.{Fills, words_of}
use Rattle.list_plan.proofs.filler.Filler.map_pages.Given as goal

abbrev pub invariant-loop-i : goal.invariant-loop-i
invariant-loop-i l = Fills l.initial.self l.self (pages_from (map_page l.filling) (words_of l.initial.self) l.page l.i)

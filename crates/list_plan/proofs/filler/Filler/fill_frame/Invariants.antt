use Rattle.std.proofs.Common.{◌+◌, ◌*◌}
use Rattle.shadow_frames.specs.Frames.{pages_from}
use Rattle.list_plan.specs.inner.Fills.{Fills, words_of}
use Rattle.list_plan.specs.inner.Pieces.{word_filled}
use Rattle.list_plan.proofs.filler.Filler.fill_frame.Given as goal

abbrev pub invariant-loop-i : goal.invariant-loop-i
invariant-loop-i l = Fills l.initial.self l.self (pages_from (word_filled l.filling) (words_of l.initial.self) (4113 + 256 * l.frame) l.i)

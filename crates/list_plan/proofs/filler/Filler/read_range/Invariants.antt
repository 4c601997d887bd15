use Rattle.std.proofs.Common.{◌/◌}
use Rattle.shadow_frames.specs.Frames.{pages_from}
use Rattle.shadow_layout.specs.Operations.{read_block}
use Rattle.list_plan.specs.inner.Fills.{Fills, words_of}
use Rattle.list_plan.proofs.filler.Filler.read_range.Given as goal

abbrev pub invariant-loop-i : goal.invariant-loop-i
invariant-loop-i l = Fills l.initial.self l.self (pages_from read_block (words_of l.initial.self) (l.addr / 16) l.i)

use Rattle.std.proofs.Common.{◌/◌}
use Rattle.shadow_frames.specs.Frames.{pages_from}
use Rattle.shadow_layout.specs.Operations.{change_block}
use Rattle.list_plan.specs.inner.Changes.{changed_nibble}
use Rattle.list_plan.specs.inner.Fills.{Fills, words_of}
use Rattle.list_plan.proofs.filler.Filler.change_range.Given as goal

abbrev pub invariant-loop-i : goal.invariant-loop-i
invariant-loop-i g l = Fills l.initial.self l.self (pages_from (change_block (changed_nibble (g.L.Lifeguard.rules l.guard) l.change) l.addr l.len) (words_of l.initial.self) (l.addr / 16) l.i)

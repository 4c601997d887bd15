use Rattle.std.proofs.Common.{◌≡◌, take}
use Rattle.order_core.proofs.opening.opening_words.Given as goal

abbrev pub invariant-loop-i : goal.invariant-loop-i
invariant-loop-i g l = l.words.items ≡ take l.i ((g.P.Plan.planned l.plan).opening)

use Rattle.std.proofs.Common.{◌≡◌, take}
use Rattle.list_plan.proofs.copies.copied_pages.Given as goal

abbrev pub invariant-loop-run : goal.invariant-loop-run
invariant-loop-run l = l.copy ≡ take l.run-index l.pages

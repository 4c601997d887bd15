use Rattle.std.proofs.Common.{◌≡◌, ◌++◌, drop, filter}
use Rattle.pl_event.specs.declared.fed.Fed.{Fed}
use Rattle.pl_event.specs.Numbers.{is_of}
use Rattle.pl_event.specs.Feeds.{feds_from, feds_of}
use Rattle.pl_event.specs.Heads.{Tells}
use Rattle.pl_event.proofs.feeds.feds.Given as goal

abbrev pub invariant-loop-at : goal.invariant-loop-at
invariant-loop-at l = record {
  heads : Tells l.heads l.lines l.at;
  told : l.feds.items ++ filter (λ (fed : Fed). is_of l.hart fed.line) (feds_from l.lines l.at (drop l.at l.lines)) ≡ feds_of l.hart l.lines;
}

use Rattle.log_check.specs.Checked.{IsChecked}
use Rattle.log_check.proofs.ordered.first_unordered.Given as goal

abbrev pub invariant-loop-at : goal.invariant-loop-at
invariant-loop-at l = IsChecked l.check l.log l.at

use Rattle.std.proofs.Common.{◌≡◌, ℕ, ◌<◌, false, List}
use Rattle.log_grammar.specs.Spelling.{Entry}
use Rattle.log_text.specs.Tally.{Keeps}
use Rattle.log_text.specs.WellFormed.{is_waiting}
use Rattle.log_text.proofs.judge.some_is_open.Given as goal

abbrev pub invariant-harts : goal.invariant-harts
invariant-harts l = (k : ℕ) → k < l.hart → (before : List Entry) → Keeps l.tally before → is_waiting before k ≡ false

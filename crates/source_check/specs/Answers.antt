-- What the check of a source answers.
use Rattle.std.specs.Prelude.{List, ℕ, Option, MatchOption}
use Rattle.pl_event.specs.Conflicts.{IsOrdered}
use Rattle.pl_event.specs.declared.log.Log.{Log}
use Rattle.log_check.specs.Answers.{NamesFirst}
use Rattle.log_check.specs.declared.order_check.UnorderedPair.{UnorderedPair}
use Rattle.log_text.specs.Reading.{IsOnly}

-- the bytes are those of a log, which is ordered where no pair was found; else the pair is its first one that is not
pub record HasOrder (bytes : List ℕ) (found : Option UnorderedPair) : Type 0 where
  pub log : Log
  pub only : IsOnly bytes log
  pub order : MatchOption found (IsOrdered log) (λ pair. NamesFirst log pair.earlier pair.later)

-- `check`: the order of a log.
use Rattle.std.specs.Prelude.{◌≡◌, ℕ, ◌≤◌, length, List, [], ◌∷◌, ◌++◌, codes, Option, Some, None}
use Rattle.pl_base.specs.declared.layout.TheConstants.{MAX_RECORDS}
use Rattle.pl_event.specs.declared.log.Log.{Log}
use Rattle.pl_event.specs.Conflicts.{IsOrdered}
use Rattle.pl_event.specs.Runs.{IsRunLog}
use Rattle.log_text.specs.Reading.{IsOnly}
use Rattle.log_text.specs.Spelling.{point_word}
use Rattle.log_check.specs.Answers.{NamesFirst}
use Rattle.log_check.specs.declared.order_check.UnorderedPair.{UnorderedPair}
use Rattle.paralog_top.specs.declared.answer.Verdict.{Verdict}
use Rattle.paralog_top.specs.declared.checked.Checked.{Checked}
use Rattle.paralog_top.specs.declared.checked.Checked.TheVariants as checked
use Rattle.paralog_top.specs.declared.answer.Verdict.TheVariants.{Clean, Reports, Unordered}

-- the log that was checked: it is this one and is ordered, or has this first pair that is not
abbrev pub HasChecked : Log → Checked → Type 0
HasChecked log (checked.Ordered ordered) = (ordered.log ≡ log) × IsOrdered log
HasChecked log (checked.Unordered earlier later) = NamesFirst log earlier later

-- the bytes are this log alone, and this was found of its order
pub record IsCheckedLog (bytes : List ℕ) (found : Checked) : Type 0 where
  pub log : Log
  pub read : IsOnly bytes log
  pub run : IsRunLog log
  pub few : length log.lines ≤ MAX_RECORDS
  pub order : HasChecked log found

-- what the verdict says of what was found
abbrev pub verdict_on : Option UnorderedPair → Verdict
verdict_on None = Clean
verdict_on (Some pair) = Unordered pair.earlier pair.later

-- a log is ordered, or has this first pair that is not
abbrev pub HasOrder : Log → Verdict → Type 0
HasOrder log Clean = IsOrdered log
HasOrder log Reports = ⊥
HasOrder log (Unordered earlier later) = NamesFirst log earlier later

abbrev pub order_line : Verdict → List ℕ
order_line (Unordered earlier later) = codes "unordered " ++ point_word earlier ++ 32 ∷ point_word later ++ 10 ∷ []
order_line _ = codes "ordered\n"

-- the bytes are this log alone, and the line says that it is ordered, or names the first pair that is not
pub record IsChecked (bytes text : List ℕ) (verdict : Verdict) : Type 0 where
  pub log : Log
  pub read : IsOnly bytes log
  pub order : HasOrder log verdict
  pub told : text ≡ order_line verdict

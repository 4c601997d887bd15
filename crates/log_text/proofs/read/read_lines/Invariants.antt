use Rattle.std.proofs.Common.{◌≡◌, ◌<◌, ◌^◌, ◌++◌, ℕ, List, [], length}
use Rattle.pl_event.specs.declared.log.Log.{Log}
use Rattle.log_text.specs.Reading.{HasRead}
use Rattle.log_text.proofs.ReaderLemmas.{lined}
use Rattle.log_text.proofs.read.read_lines.Given as goal

abbrev pub invariant-lines : goal.invariant-lines
invariant-lines l = (bytes : List ℕ) (log : Log) → length bytes < 2 ^ 31 → log.lines ≡ l.initial.lines → HasRead l.initial.reader bytes (l.text ++ []) log → HasRead l.reader bytes (l.rest ++ []) (lined log l.lines)

abbrev pub decreases-lines : goal.decreases-lines
decreases-lines l = length l.rest

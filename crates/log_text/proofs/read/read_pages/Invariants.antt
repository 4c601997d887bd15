use Rattle.std.proofs.Common.{◌≡◌, ◌<◌, ◌^◌, ◌++◌, ℕ, List, [], length}
use Rattle.pl_event.specs.declared.log.Log.{Log}
use Rattle.log_text.specs.Reading.{IsReadBy}
use Rattle.log_text.proofs.ReaderLemmas.{paged}
use Rattle.log_text.proofs.read.read_pages.Given as goal

abbrev pub invariant-pages : goal.invariant-pages
invariant-pages l = (bytes : List ℕ) (log : Log) → length bytes < 2 ^ 31 → log.lines ≡ [] → log.pages ≡ l.initial.pages → IsReadBy l.initial.reader bytes (l.text ++ []) log → IsReadBy l.reader bytes (l.rest ++ []) (paged log l.pages)

abbrev pub decreases-pages : goal.decreases-pages
decreases-pages l = length l.rest

-- Which logs can be played.
use Rattle.std.specs.Prelude.{ℕ, ◌+◌, ◌≤◌, length, All}
use Rattle.pl_base.specs.declared.layout.TheConstants.{PAGE_COUNT, MAX_HARTS, MAX_RECORDS}
use Rattle.pl_event.specs.Valid.{HasValidEvent}
use Rattle.pl_event.specs.declared.log.Line.{Line}
use Rattle.pl_event.specs.declared.log.Log.{Log}

abbrev pub CanPlayLine : ℕ → Line → Type 0
CanPlayLine harts line = HasValidEvent harts line.what

-- at most eight harts, no page passes the last one, each event is valid, and there are at most 2,000,000 records
pub record CanPlay (log : Log) : Type 0 where
  pub few : log.harts ≤ MAX_HARTS
  pub inside : All (λ run. run.first + run.count ≤ PAGE_COUNT) log.pages
  pub valid : All (CanPlayLine log.harts) log.lines
  pub short : length log.lines ≤ MAX_RECORDS

-- What a reader of a well-formed log may rely on.
use Rattle.std.specs.Prelude.{ℕ, ◌+◌, ◌<◌, ◌≤◌, length, All}
use Rattle.pl_base.specs.declared.layout.TheConstants.{MAX_HARTS, MAX_RECORDS, PAGE_COUNT}
use Rattle.pl_event.specs.Edges.{IsFlow}
use Rattle.pl_event.specs.Runs.{IsBlockSize, IsSoundLine}
use Rattle.pl_event.specs.Valid.{IsValidEvent}
use Rattle.pl_event.specs.declared.log.Line.{Line}
use Rattle.pl_event.specs.declared.log.Log.{Log}
use Rattle.pl_event.specs.declared.log.Record.{Record}
use Rattle.pl_event.specs.declared.log.Record.TheVariants as entry

-- a record's event is one of a run of so many harts
abbrev pub IsValidRecord : ℕ → Record → Type 0
IsValidRecord harts (entry.Event event) = IsValidEvent event harts
IsValidRecord harts (entry.Notice hart point) = hart < harts

abbrev pub IsValidLine : ℕ → Line → Type 0
IsValidLine harts line = IsValidRecord harts line.what

-- each event is valid, no page passes the last one, and there are at most 2,000,000 records
pub record HasValidParts (log : Log) : Type 0 where
  pub some : 1 ≤ log.harts
  pub few : log.harts ≤ 8
  pub inside : All (λ run. run.first + run.count ≤ PAGE_COUNT) log.pages
  pub valid : All (IsValidLine log.harts) log.lines
  pub short : length log.lines ≤ MAX_RECORDS

-- 1 to 8 harts and a size of blocks, each line is sound, and arcs and notices lead forward, though the event of a
-- notice may still be to come
pub record HasSoundLines (log : Log) : Type 0 where
  pub some : 1 ≤ log.harts
  pub few : log.harts ≤ MAX_HARTS
  pub block : IsBlockSize log.block
  pub sound : All (IsSoundLine log.harts) log.lines
  pub flow : IsFlow log.harts log.lines

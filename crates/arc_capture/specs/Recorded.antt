-- The log that is recorded of some events.
use Rattle.std.specs.Prelude.{◌≡◌, ℕ, List}
use Rattle.pl_event.specs.declared.event.Event.{Event}
use Rattle.pl_event.specs.declared.log.Line.{Line}
use Rattle.pl_event.specs.declared.log.Log.{Log}
use Rattle.pl_event.specs.declared.log.PageRun.{PageRun}
use Rattle.conflict_alerts.specs.Placing.{placed}
use Rattle.arc_reduce.specs.Drawn.{HaveEight, IsDrawn}
use Rattle.arc_reduce.specs.Reduction.{records_in, IsReduced}

-- the placed lines with all their candidates as arcs: of each other hart the last record before a load or a store that
-- conflicts with it by a block
pub record IsFull (size : ℕ) (base full : List Line) : Type 0 where
  pub records : records_in full ≡ records_in base
  pub drawn : IsDrawn size full
  pub eight : HaveEight full

-- of the full lines those arcs are kept whose source reaches its record by no other path
pub record IsKept (size : ℕ) (base lines : List Line) : Type 0 where
  pub full : List Line
  pub whole : IsFull size base full
  pub reduced : IsReduced lines full
  pub eight : HaveEight lines

-- the lines of a recorder: all events in order, before each alert event a notice in each other hart, and the arcs that
-- are not implied
abbrev pub AreRecorded : ℕ → ℕ → List Event → List Line → Type 0
AreRecorded harts size events lines = IsKept size (placed harts events) lines

-- the log that a recorder makes of the events of a run of so many harts, with these pages at the start
pub record IsRecorded (run_harts size : ℕ) (runs : List PageRun) (events : List Event) (log : Log) : Type 0 where
  pub harts : log.harts ≡ run_harts
  pub block : log.block ≡ size
  pub pages : log.pages ≡ runs
  pub lines : AreRecorded run_harts size events log.lines

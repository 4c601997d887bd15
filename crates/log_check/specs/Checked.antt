-- What a check of a log's order has shown of its first lines.
use Rattle.std.specs.Prelude.{◌≡◌, ℕ, ◌^◌, ◌<◌, ◌≤◌, ◌++◌, List, length, Some, slice_get, All}
use Rattle.pl_base.specs.declared.layout.TheConstants.{MAX_HARTS}
use Rattle.pl_event.specs.declared.log.Line.{Line}
use Rattle.pl_event.specs.declared.log.Log.{Log}
use Rattle.pl_event.specs.Conflicts.{AreOrdered}
use Rattle.pl_event.specs.Edges.{IsFlow}
use Rattle.pl_event.specs.Heads.{Tells}
use Rattle.pl_event.specs.Runs.{IsBlockSize, IsSoundLine}
use Rattle.log_clocks.specs.Clocks.{HasClocks}
use Rattle.log_clocks.specs.LastAccesses.{HasLast}
use Rattle.log_check.specs.declared.order_check.OrderCheck.{OrderCheck}
use Rattle.log_check.specs.inner.Traced.{IsTraced}
use Rattle.log_check.specs.inner.Watched.{IsWatched}

-- a log of a run, or its first lines
pub record IsCheckable (log : Log) : Type 0 where
  pub few : log.harts ≤ MAX_HARTS
  pub block : IsBlockSize log.block
  pub sound : All (IsSoundLine log.harts) log.lines
  pub flow : IsFlow log.harts log.lines

-- the first i lines are taken, and each two conflicting events there are ordered
pub record IsChecked (check : OrderCheck) (log : Log) (i : ℕ) : Type 0 where
  pub size : check.block ≡ log.block
  pub tells : Tells check.heads log.lines i
  pub clocks : HasClocks check.clocks log.lines i
  pub lasts : HasLast check.lasts log.block log.lines i
  pub alerts : IsWatched check.alerts log.lines i
  pub traced : IsTraced check.trace log.lines i
  pub ordered : AreOrdered log.block log.lines i

-- the line may be the next one: it is the line of the log after those that are taken
pub record MayPass (check : OrderCheck) (log : Log) (at : ℕ) (line : Line) : Type 0 where
  pub checkable : IsCheckable log
  pub few : length log.lines < 2 ^ 32
  pub here : slice_get log.lines at ≡ Some line
  pub checked : IsChecked check log at

-- the new log has the lines of the old one and more
pub record GrowsTo (old new : Log) : Type 0 where
  pub block : new.block ≡ old.block
  pub more : List Line
  pub lines : new.lines ≡ old.lines ++ more
  pub flow : IsFlow new.harts new.lines

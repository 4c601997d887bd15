-- The next line of a check, with its clock.
use Rattle.std.specs.Prelude.{◌≡◌, ℕ, ◌+◌, ◌^◌, ◌<◌, length, Some, slice_get}
use Rattle.pl_event.specs.declared.log.Line.{Line}
use Rattle.pl_event.specs.declared.log.Log.{Log}
use Rattle.pl_event.specs.Conflicts.{AreOrdered}
use Rattle.pl_event.specs.Edges.{Into}
use Rattle.pl_event.specs.Graph.{IsClock}
use Rattle.pl_event.specs.Heads.{Tells}
use Rattle.pl_event.specs.Numbers.{hart_of}
use Rattle.pl_event.specs.Records.{records_before}
use Rattle.log_clocks.specs.declared.clock.Clock.{Clock}
use Rattle.log_clocks.specs.Clocks.{HasClocks, time}
use Rattle.log_clocks.specs.LastAccesses.{HasLast}
use Rattle.log_check.specs.declared.order_check.OrderCheck.{OrderCheck}
use Rattle.log_check.specs.Checked.{IsCheckable}
use Rattle.log_check.specs.inner.Traced.{IsTraced}
use Rattle.log_check.specs.inner.Watched.{IsWatched}

-- the line at position i is the next one, this is its clock, and the clocks have it
pub record MaySettle (check : OrderCheck) (log : Log) (i : ℕ) (line : Line) (clock : Clock) : Type 0 where
  pub checkable : IsCheckable log
  pub few : length log.lines < 2 ^ 32
  pub here : slice_get log.lines i ≡ Some line
  pub right : let h = hart_of line.what in IsClock (Into log.lines) h (records_before h log.lines i + 1) (time clock)
  pub number : time clock (hart_of line.what) ≡ records_before (hart_of line.what) log.lines i + 1
  pub size : check.block ≡ log.block
  pub tells : Tells check.heads log.lines i
  pub clocks : HasClocks check.clocks log.lines (i + 1)
  pub lasts : HasLast check.lasts log.block log.lines i
  pub alerts : IsWatched check.alerts log.lines i
  pub traced : IsTraced check.trace log.lines i
  pub ordered : AreOrdered log.block log.lines i

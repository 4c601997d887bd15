-- What a watch over alert events tells of the first lines of a log.
use Rattle.std.specs.Prelude.{◌≡◌, ◌≢◌, ℕ, ◌<◌, List, IsTrue, false, slice_index_or}
use Rattle.pl_event.specs.declared.event.Event.{Event}
use Rattle.pl_event.specs.declared.log.Line.{Line}
use Rattle.pl_event.specs.Alerts.{is_alert_kind}
use Rattle.pl_event.specs.Conflicts.{is_access, HasNotice}
use Rattle.pl_event.specs.Records.{IsEvent}
use Rattle.log_check.specs.declared.alerts.AlertWatch.{AlertWatch}

-- a hart that has missed none has a notice of each alert event of another hart; one that is not active had no access
pub record IsWatched (watch : AlertWatch) (lines : List Line) (i : ℕ) : Type 0 where
  pub missed : (h j n : ℕ) (a : Event) → h < 8 → slice_index_or watch.missed h false ≡ false → j < i →
      IsEvent lines j n a → IsTrue (is_alert_kind a.kind) → a.hart ≢ h → HasNotice lines h a.hart n
  pub active : (j n : ℕ) (a : Event) → a.hart < 8 → j < i → IsEvent lines j n a → IsTrue (is_access a.kind) →
      IsTrue (slice_index_or watch.active a.hart false)

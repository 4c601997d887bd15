use Rattle.std.proofs.Common.{ℕ, sym, subst}
use Rattle.std.specs.Prelude.{length}
use Rattle.pl_event.specs.Conflicts.{AreOrdered}
use Rattle.conflict_alerts.specs.Placing.{placed}
use Rattle.conflict_alerts.proofs.Placed.{all_noticed}
use Rattle.arc_capture.proofs.Kept.{one_kept, least_kept, ordered_kept}
use Rattle.arc_capture.proofs.RunLog.{events_kept, run_of}
use Rattle.arc_capture.proofs.laws.recorded_events.Goals as goal

pub returns-clause-one : goal.returns-clause-one
returns-clause-one c harts size events lines others x y = one_kept size (placed harts events) lines others x y

pub returns-clause-events : goal.returns-clause-events
returns-clause-events c = events_kept

pub returns-clause-ordered : goal.returns-clause-ordered
returns-clause-ordered c harts block pages events log inside is = subst (λ (z : ℕ). AreOrdered z log.lines (length log.lines)) (sym is.block) (ordered_kept block harts (placed harts events) log.lines (all_noticed harts events inside) is.lines (length log.lines))

pub returns-clause-least : goal.returns-clause-least
returns-clause-least c harts size events lines inside is = least_kept size harts (placed harts events) lines (all_noticed harts events inside) is

pub returns-clause-run : goal.returns-clause-run
returns-clause-run c harts block pages events log opening follow is = run_of harts block pages events log opening is.harts is.pages follow is.lines

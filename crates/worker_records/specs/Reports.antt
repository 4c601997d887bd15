-- The reports of an event, from what was found.
use Rattle.std.specs.Prelude.{ℕ, ◌++◌, List, Option}
use Rattle.pl_event.specs.declared.event.Kind.{Kind}
use Rattle.lifeguard.specs.declared.report.EventPlace.{EventPlace}
use Rattle.lifeguard.specs.declared.report.Report.{Report}
use Rattle.lifeguard.specs.declared.report.ReportKind.TheVariants as report
use Rattle.lifeguard.specs.Plain.{misdeeds, register_report, reported}
use Rattle.lifeguard.specs.Rules.{Rules}
use Rattle.worker_records.specs.declared.state.Found.{Found}

-- on a marked register, on what was found at its bytes, and on the event itself
abbrev pub all_reports : Rules → EventPlace → Kind → Option ℕ → Found → List Report
all_reports rules at kind marked found =
    reported at (register_report kind) marked ++ reported at report.Access found.touched
    ++ reported at report.Undef found.sent ++ misdeeds rules at kind

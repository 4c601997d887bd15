-- The reports of all harts in one list.
use Rattle.std.specs.Prelude.{◌≡◌, ℕ, ◌<◌, ◌==◌, List, All, length, filter, flat_map}
use Rattle.std.specs.List.Sorted.{IsNonDecreasingBy}
use mathlib.Core.Option.{some}
use lib.ListN.{get_elem?}
use Rattle.pl_event.specs.declared.log.Log.{Log}
use Rattle.pl_event.specs.Numbers.{events_of}
use Rattle.lifeguard.specs.declared.report.Report.{Report}
use Rattle.lifeguard.specs.Rules.{Rules}
use Rattle.lifeguard.specs.Plain.{plain_result}
use Rattle.lifeguard.specs.Ranges.{reports_on}
use Rattle.turn_worker.specs.declared.worker.HartResult.{HartResult}

-- the reports of all results, in their order
abbrev pub all_reports : List HartResult → List Report
all_reports results = flat_map (λ result. result.reports.items) results

-- the reports on the event at a place
abbrev pub reports_at : ℕ → List Report → List Report
reports_at place reports = filter (λ report. report.place == place) reports

-- the same reports by rising place, those of one event in the order that they had
pub record IsByPlace (before after : List Report) : Type 0 where
  pub rising : IsNonDecreasingBy (λ report. report.place) after
  pub order : (place : ℕ) → reports_at place after ≡ reports_at place before

-- for each hart of a run a result, by number, with the reports of the plain rules on that hart
pub record AreOfRun (rules : Rules) (log : Log) (results : List HartResult) : Type 0 where
  pub harts : All (λ event. event.hart < log.harts) (events_of log.lines)
  pub size : length results ≡ log.harts
  pub reports : (k : ℕ) (result : HartResult) → get_elem? results k ≡ some result
      → result.reports.items ≡ reports_on k (plain_result rules log.pages (events_of log.lines)).reports

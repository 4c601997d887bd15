use Rattle.std.proofs.Common.{◌≡◌, take}
use Rattle.lifeguard_crew.specs.Merges.{all_reports}
use Rattle.lifeguard_crew.proofs.reports.gather.Given as goal

abbrev pub invariant-loop-result : goal.invariant-loop-result
invariant-loop-result l = l.reports.items ≡ all_reports (take l.result-index l.results)

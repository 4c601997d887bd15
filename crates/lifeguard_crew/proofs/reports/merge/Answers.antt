use Rattle.std.proofs.Common.{rules, ◌≡◌, List, ap, ◌∙◌}
use Rattle.std.proofs.lemmas.Fn.{always_returns_same}
use Rattle.std.proofs.lemmas.List.Sorted.{IsNonDecreasingBy-from_sort_by_key}
use Rattle.lifeguard.specs.declared.report.Report.{Report}
use Rattle.lifeguard_crew.specs.Merges.{all_reports, reports_at, IsByPlace}
use Rattle.lifeguard_crew.proofs.Merges.{merged_is_plain}
use Rattle.lifeguard_crew.proofs.Stable.{stable_at}
use Rattle.lifeguard_crew.proofs.reports.merge.Goals as goal

pub returns : goal.returns
returns c =
    let before : List Report = c.in_ok-reports.reports.items in
    let after : List Report = c.sort_by_key.new.self.items in
    let stable = c.sort_by_key.ensures.stable (λ (r : Report). r.place)
    (always_returns_same _ (λ a r. r ≡ a.0.now.place) _ (λ a r q k. search rules)) in
    let by : IsByPlace (all_reports c.args.results.now) after = record {
      rising = IsNonDecreasingBy-from_sort_by_key (λ (r : Report). r.place) _ c.in_ok-sort_by_key.ensures.sorted (λ a r q k. search rules);
      order = λ p. stable_at before after stable p ∙ ap (reports_at p) c.in_ok-reports.ensures;
    } in
    record { by_place = by; plain = λ rules log of. merged_is_plain rules log c.args.results.now after of by }

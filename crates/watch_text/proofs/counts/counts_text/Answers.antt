use Rattle.std.proofs.Common.{◌≡◌, ℕ, List, ◌++◌, codes, ap, ◌∙◌}
use Rattle.std.specs.List.{flat_map}
use Rattle.lifeguard.specs.declared.guard.Name.{Name}
use Rattle.lifeguard.specs.State.{span}
use Rattle.turn_worker.specs.Results.{checks_of}
use Rattle.turn_worker.specs.declared.worker.HartResult.{HartResult}
use Rattle.watch_text.specs.CountsText.{counts_on, hart_counts, head_counts}
use Rattle.watch_text.proofs.Spans.{flat_spanned}
use Rattle.watch_text.proofs.counts.counts_text.Goals as goal

pub returns : goal.returns
returns g c =
    let rules = g.L.Lifeguard.rules c.args.guard in
    let log = c.args.log.now in
    let line = λ (found : HartResult). hart_counts found.hart found.checks found.misses in
    let text = λ (name : Name) (lines : List ℕ). head_counts name log.harts ++ lines ++ codes "end\n" in
    c.in_ok-text.ensures
    ∙ ap (λ (rs : List HartResult). text c.name.result (flat_map line rs)) c.deref.ensures.value
    ∙ ap (λ (name : Name). text name (flat_map line c.args.watched.now.results.items)) c.name.ensures
    ∙ ap (text rules.name) (flat_spanned line (counts_on rules log) c.args.watched.now.results.items (λ k found at.
    let is = c.requires.results k found at in
    ap (λ (h : ℕ). hart_counts h found.checks found.misses) is.hart
    ∙ ap (λ (n : ℕ). hart_counts k n found.misses) is.checks
    ∙ ap (hart_counts k (checks_of rules k log.lines)) is.misses)
    ∙ ap (λ (n : ℕ). flat_map (counts_on rules log) (span 0 n)) c.requires.harts)

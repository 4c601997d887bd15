use Rattle.std.proofs.Common.{◌≡◌, ℕ, List, map, slice_index, ap, ◌∙◌}
use Rattle.lifeguard.specs.Plain.{final_state}
use Rattle.lifeguard.specs.State.{span}
use Rattle.report_text.specs.StateText.{mask_row}
use Rattle.watch_text.specs.inner.Rows.{row_of}
use Rattle.watch_text.proofs.Spans.{same_on, spanned}
use Rattle.watch_text.proofs.rows.mask_table.Goals as goal

pub returns : goal.returns
returns c rules log watched =
    let masks = (final_state rules log).masks in
    let results = c.args.watched.now.results.items in
    c.in_ok-table.ensures ∙ ap (map row_of) c.deref.ensures.value
    ∙ spanned row_of (mask_row masks) results
    (λ k found at. same_on (slice_index found.masks) (masks k) 34 (watched.results k found at).masks)
    ∙ ap (λ (n : ℕ). map (mask_row masks) (span 0 n)) watched.harts

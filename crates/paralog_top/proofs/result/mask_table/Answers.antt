use Rattle.std.proofs.Common.{◌∙◌, ◌++◌, ◌∷◌, [], List, ℕ, ap, sym}
use Rattle.lifeguard.specs.Shadow.{state_of}
use Rattle.report_text.specs.StateText.{mask_row}
use Rattle.watch_text.proofs.RowLemmas.{map_span-more}
use Rattle.paralog_top.proofs.result.mask_table.Goals as goal

pub loop-hart-preserved : goal.loop-hart-preserved
loop-hart-preserved g c =
    let row = mask_row ((state_of c.args.monitor.now.shadow).masks) in
    c.in_ok-push.ensures.items ∙ ap (λ (xs : List (List ℕ)). xs ++ c.masks_of.result ∷ []) c.loop-hart.invariant
    ∙ rw c.masks_of.ensures (sym (map_span-more row c.loop-hart.hart))

use Rattle.std.proofs.Common.{◌≡◌, ℕ, List, [], ◌∷◌, ◌++◌, map, take, sym, ap, ◌∙◌}
use Rattle.turn_worker.specs.declared.worker.HartResult.{HartResult}
use Rattle.watch_text.specs.inner.Rows.{row_of}
use Rattle.watch_text.proofs.Spans.{map_take_more}
use Rattle.watch_text.proofs.rows.rows.Goals as goal

pub loop-found-preserved : goal.loop-found-preserved
loop-found-preserved c =
    c.in_ok-push.ensures.items
    ∙ ap (λ (rows : List (List ℕ)). rows ++ c.row.result ∷ []) c.loop-found.invariant
    ∙ ap (λ (row : List ℕ). map row_of (take c.loop-found.found-index c.args.results.now) ++ row ∷ []) c.row.ensures
    ∙ sym (map_take_more row_of c.args.results.now c.loop-found.found-index c.found-item.result
    c.loop-found-test.true c.found-item.is)

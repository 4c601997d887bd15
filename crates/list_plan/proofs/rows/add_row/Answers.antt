use Rattle.std.proofs.Common.{List, [], ◌∷◌, ◌++◌, ap, ◌∙◌}
use Rattle.order_core.specs.declared.record_plan.RecordPlan.{RecordPlan}
use Rattle.list_plan.proofs.RowLemmas.{stream_here, stream_other, stream_read}
use Rattle.list_plan.proofs.rows.add_row.Goals as goal

pub returns-clause-added : goal.returns-clause-added
returns-clause-added c =
    let was = stream_read c.args.streams.now.items c.args.hart c.index_mut.result.now c.requires c.index_mut.ensures.value in
    stream_here c.args.streams.now.items c.args.hart _ c.requires ∙ (c.in_ok-push.ensures.items ∙ ap (λ (xs : List RecordPlan). xs ++ c.args.row ∷ []) was)

pub returns-clause-others : goal.returns-clause-others
returns-clause-others c u other = stream_other c.args.streams.now.items c.args.hart u _ other

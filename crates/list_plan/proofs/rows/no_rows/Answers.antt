use Rattle.std.proofs.Common.{◌≡◌, ℕ, ◌+◌, [], ◌∷◌, length, length-append, List, Vec, Global, ap, ◌∙◌, subst, sym}
use Rattle.order_core.specs.declared.record_plan.RecordPlan.{RecordPlan}
use Rattle.order_core.specs.Lists.{stream_of}
use Rattle.list_plan.proofs.RowLemmas.{none_more}
use Rattle.list_plan.proofs.rows.no_rows.Goals as goal

pub loop-hart-preserved : goal.loop-hart-preserved
loop-hart-preserved c = record {
  count = ap (λ (vs : List (Vec RecordPlan Global)). length vs) c.in_ok-push.ensures.items ∙ (length-append c.loop-hart.streams.items (c.new.result ∷ []) ∙ ap (λ (n : ℕ). n + 1) c.loop-hart.invariant.count);
  none = λ h. subst (λ (vs : List (Vec RecordPlan Global)). stream_of vs h ≡ []) (sym c.in_ok-push.ensures.items) (none_more c.loop-hart.streams.items c.new.result c.new.ensures.items c.loop-hart.invariant.none h);
}

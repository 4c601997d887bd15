use Rattle.std.proofs.Common.{◌≡◌, ◌∙◌, ◌+◌, ◌++◌, ◌∷◌, [], List, arith, ap}
use Rattle.pl_event.specs.Edges.{no_arcs}
use Rattle.pl_event.proofs.RowLemmas.{rows-push, slot_is}
use Rattle.lifeguard_worker.specs.declared.rows.Row.{Row}
use Rattle.lifeguard_worker.specs.Rows.{Item, item_with}
use Rattle.lifeguard_worker.proofs.rows.Rows.push_needing.Goals as goal

pub returns-clause-ok : goal.returns-clause-ok
returns-clause-ok c =
    let slot : c.in-Some.slot ≡ c.len.result + 1 = slot_is _ _ _ _ c.next_slot.ensures c.in-Some.is in
    rw (c.in_ok-push-2.ensures.items, c.in_ok-push.ensures.items, c.reserve.ensures.items)
    (rows-push no_arcs item_with (λ (row : Row). row.slot) c.self.inside.needs.items c.args.needs c.self.inside.rows.items
    (record { entry = c.args.entry; slot = c.in-Some.slot }) c.self.invariant (omega (arith, slot, c.len.ensures))
    ∙ ap (λ (items : List Item). items ++ record { entry = c.args.entry; needs = c.args.needs } ∷ []) c.self.view_is)

use Rattle.std.proofs.Common.{◌≡◌, ◌∙◌, ℕ, ◌+◌, ◌++◌, ◌∷◌, [], List, Option, arith, ap}
use Rattle.pl_event.specs.declared.lines.Row.{Row}
use Rattle.pl_event.specs.declared.log.Line.{Line}
use Rattle.pl_event.specs.Edges.{no_arcs}
use Rattle.pl_event.proofs.RowLemmas.{rows-push, slot_is}
use Rattle.pl_event.proofs.lines.Lines.push.Goals as goal

pub returns-clause-ok : goal.returns-clause-ok
returns-clause-ok c =
    let arcs = c.self.inside.arcs.items in
    let slot : c.in-Some.slot ≡ c.len.result + 1 = slot_is _ _ _ _ c.next_slot.ensures c.in-Some.is in
    rw (c.in_ok-push-2.ensures.items, c.in_ok-push.ensures.items, c.reserve.ensures.items)
    (rows-push no_arcs (λ (a : List (Option ℕ)) (row : Row). record { what = row.what; arcs = a }) (λ (row : Row). row.slot)
    arcs c.args.line.arcs c.self.inside.rows.items (record { what = c.args.line.what; slot = c.in-Some.slot }) c.self.invariant (omega (arith, slot, c.len.ensures))
    ∙ ap (λ (ls : List Line). ls ++ c.args.line ∷ []) c.self.view_is)

use Rattle.std.proofs.Common.{ℕ, ◌<◌, ◌≤◌, List, Option, Some, length, sym, ap, ◌∙◌, subst}
use Rattle.std.specs.Prelude.{slice_get}
use Rattle.std.proofs.lemmas.List.Elements.{All-get_or}
use Rattle.lifeguard_worker.specs.declared.rows.Row.{Row}
use Rattle.lifeguard_worker.specs.Rows.{Item, needs_at}
use Rattle.lifeguard_worker.proofs.RowLemmas.{item_there, item_within, needs_there}
use Rattle.lifeguard_worker.proofs.rows.Rows.needs.Goals as goal

pub returns-then-slot-eq0 : goal.returns-then-slot-eq0
returns-then-slot-eq0 c =
    let needs = c.self.inside.needs.items in
    let row = c.index.result.now in
    let lt = subst (λ (items : List Item). c.args.i < length items) (sym c.self.view_is) c.requires in (
      row.entry,
      ap (λ (items : List Item). slice_get items c.args.i) (sym c.self.view_is) ∙ (item_there needs c.self.inside.rows.items c.args.i row lt c.index.ensures
          ∙ ap (λ (s : ℕ). Some (record { entry = row.entry; needs = needs_at needs s })) c.if-slot-eq0.true),
    )

pub returns-else-slot-eq0 : goal.returns-else-slot-eq0
returns-else-slot-eq0 c =
    let needs = c.self.inside.needs.items in
    let row = c.index.result.now in
    let rows = c.self.inside.rows.items in
    let lt = subst (λ (items : List Item). c.args.i < length items) (sym c.self.view_is) c.requires in
    let inside : row.slot ≤ length needs = subst (λ (r : Row). r.slot ≤ length needs) (sym c.index.ensures)
    (All-get_or (λ (r : Row). r.slot ≤ length needs) rows c.args.i row (item_within needs rows c.args.i lt) c.self.invariant) in (
      row.entry,
      ap (λ (items : List Item). slice_get items c.args.i) (sym c.self.view_is) ∙ (item_there needs rows c.args.i row lt c.index.ensures
          ∙ ap (λ (z : List (Option ℕ)). Some (record { entry = row.entry; needs = z }))
          (needs_there needs rows c.args.i row lt c.index.ensures c.index-else-slot-eq0.result.now c.if-slot-eq0.false inside c.index-else-slot-eq0.ensures)),
    )

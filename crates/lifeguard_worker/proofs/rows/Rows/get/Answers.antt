use Rattle.std.proofs.Common.{◌<◌, List, length, sym, ap, ◌∙◌, subst}
use Rattle.std.specs.Prelude.{slice_get}
use Rattle.lifeguard_worker.specs.Rows.{Item, needs_at}
use Rattle.lifeguard_worker.proofs.RowLemmas.{item_there}
use Rattle.lifeguard_worker.proofs.rows.Rows.get.Goals as goal

pub returns : goal.returns
returns c =
    let needs = c.self.inside.needs.items in
    let lt = subst (λ (items : List Item). c.args.i < length items) (sym c.self.view_is) c.requires in (
      needs_at needs c.index.result.now.slot,
      ap (λ (items : List Item). slice_get items c.args.i) (sym c.self.view_is) ∙ item_there needs c.self.inside.rows.items c.args.i c.index.result.now lt c.index.ensures,
    )

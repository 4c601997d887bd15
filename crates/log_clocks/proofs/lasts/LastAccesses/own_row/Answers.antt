use Rattle.std.proofs.Common.{◌≡◌, ◌<◌, List, [], ◌∷◌, ◌++◌, length, slice_index, set, ap, sym, ◌∙◌, subst, arith, get_or-set_same}
use Rattle.log_clocks.specs.declared.lasts.Row.{Row}
use Rattle.log_clocks.specs.inner.Rows.{zero_row, row_at, IsIndexed}
use Rattle.log_clocks.proofs.RowLists.{made_indexed, made_rows, made_some}
use Rattle.log_clocks.proofs.lasts.LastAccesses.own_row.Goals.{else-slot-ne0-via-then-slot-ne0+else-slot-count, else-slot-ne0-via-else-slot-ne0}
use Rattle.log_clocks.proofs.lasts.LastAccesses.own_row.Goals as goal

pub returns-clause-own : goal.returns-clause-own
returns-clause-own c has = (
  subst (λ (z : List Row). IsIndexed (set c.args.self.now.index.items c.args.block c.count-count.result) z) (sym rows) (made_indexed c.args.self.now.index.items c.args.self.now.rows.items has c.args.block c.requires free c.count-count.result c.count-count.ensures),
  get_or-set_same c.args.self.now.index.items c.args.block c.count-count.result 0 c.requires,
  made_some c.args.self.now.index.items c.args.self.now.rows.items has c.args.block c.requires free c.count-count.result c.count-count.ensures,
  λ b. ap (λ (z : List Row). row_at (set c.args.self.now.index.items c.args.block c.count-count.result) z b) rows ∙ made_rows c.args.self.now.index.items c.args.self.now.rows.items has c.args.block c.requires free c.count-count.result c.count-count.ensures b,
)
  where
    rows : c.push.new.self.items ≡ c.args.self.now.rows.items ++ zero_row ∷ []
    rows = c.in_ok-push.ensures.items ∙ ap (λ (z : Row). c.args.self.now.rows.items ++ z ∷ []) c.zero.ensures

    free : slice_index c.args.self.now.index.items c.args.block ≡ 0
    free = elim c.else-slot-ne0.branch [
      | else-slot-ne0-via-then-slot-ne0+else-slot-count w ↦ absurd (let l : slice_index c.args.self.now.index.items c.args.block < length c.args.self.now.rows.items = has.within c.args.block in omega (arith, w.if-slot-count.false, c.slot-slot.ensures, c.count-count.ensures))
      | else-slot-ne0-via-else-slot-ne0 w ↦ sym c.slot-slot.ensures ∙ w.if-slot-ne0.false
    ]

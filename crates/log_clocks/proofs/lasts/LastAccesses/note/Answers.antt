use Rattle.std.proofs.Common.{ℕ, slice_index_or, ap, sym, ◌∙◌}
use Rattle.std.proofs.lemmas.List.{get_or_default}
use mathlib.Core.Logic.{dite}
use native.Mathlib.Decide.{ℕ_discrete}
use Rattle.log_clocks.specs.declared.lasts.Row.{Row}
use Rattle.log_clocks.specs.inner.Rows.{zero_row, in_row, row_at}
use Rattle.log_clocks.proofs.RowLists.{written_indexed, written_here, written_other}
use Rattle.log_clocks.proofs.lasts.LastAccesses.note.Goals as goal

pub returns-clause-noted : goal.returns-clause-noted
returns-clause-noted c has =
    let o = c.in_ok-slot.ensures.own has in
    let mid = c.own_row.new.self in
    let low = c.in_ok-slot.ensures.within in (
      written_indexed mid.index.items mid.rows.items o.0 c.args.block c.in_ok-slot.slot o.1 o.2 low c.set.new.self,
      ap (λ (z : Row). in_row z c.args.store c.args.hart) (written_here mid.index.items mid.rows.items o.0 c.args.block c.in_ok-slot.slot o.1 o.2 low c.set.new.self) ∙ c.set.ensures.here,
      λ b s u ne. dite (ℕ_discrete b c.args.block)
          (λ e. ap (λ (z : Row). in_row z s u) (ap (row_at mid.index.items _) e ∙ written_here mid.index.items mid.rows.items o.0 c.args.block c.in_ok-slot.slot o.1 o.2 low c.set.new.self)
          ∙ (c.set.ensures.others s u (λ t. ne (e, t.0, t.1))
          ∙ ap (λ (z : Row). in_row z s u) ((c.index_mut.ensures.value ∙ get_or_default mid.rows.items c.in_ok-slot.slot c.index_mut.result.now zero_row low) ∙ (ap (λ (z : ℕ). slice_index_or mid.rows.items z zero_row) (sym o.1) ∙ (o.3 c.args.block ∙ ap (row_at c.args.self.now.index.items c.args.self.now.rows.items) (sym e))))))
          (λ nb. ap (λ (z : Row). in_row z s u) (written_other mid.index.items mid.rows.items o.0 c.args.block c.in_ok-slot.slot o.1 o.2 low c.set.new.self b nb ∙ o.3 b)),
    )

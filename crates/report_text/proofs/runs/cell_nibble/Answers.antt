use Rattle.std.proofs.Common.{ℕ, Option, unwrap_or, arith, sym, ap}
use Rattle.lifeguard.proofs.CellLemmas.{nibble_at_mapped, nibble_at_unmapped, bytes_of_past}
use Rattle.report_text.proofs.runs.cell_nibble.Goals as goal
use Rattle.report_text.proofs.runs.cell_nibble.Goals.{else-at-cells-via-then-at-cells+else-cells-at-lt8, else-at-cells-via-else-at-cells}

pub returns-then-cells-at-lt8 : goal.returns-then-cells-at-lt8
returns-then-cells-at-lt8 c = sym (nibble_at_mapped c.args.cells.now c.args.at (omega arith) (omega arith))

pub returns-else-at-cells : goal.returns-else-at-cells
returns-else-at-cells c =
    elim c.else-at-cells.branch [
      | else-at-cells-via-then-at-cells+else-cells-at-lt8 w ↦ sym (nibble_at_unmapped c.args.cells.now c.args.at (omega (arith, w.if-at-cells.true)) (omega (arith, w.if-cells-at-lt8.false)))
      | else-at-cells-via-else-at-cells w ↦ sym (ap (λ (byte : Option ℕ). unwrap_or byte 0) (bytes_of_past c.args.cells.now c.args.at (omega (arith, w.if-at-cells.false))))
    ]

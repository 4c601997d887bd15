use Rattle.std.proofs.Common.{◌∙◌, sym, arith}
use Rattle.lifeguard.proofs.CellLemmas.{bytes_of-at, bytes_of_past}
use Rattle.lifeguard.proofs.cells.byte_at.Goals as goal

pub returns-then-addr-cells-clause-value : goal.returns-then-addr-cells-clause-value
returns-then-addr-cells-clause-value c = c.value_of.ensures.value ∙ sym (bytes_of-at c.args.cells.now c.args.addr (omega arith))

pub returns-else-addr-cells-clause-value : goal.returns-else-addr-cells-clause-value
returns-else-addr-cells-clause-value c = sym (bytes_of_past c.args.cells.now c.args.addr (omega arith))

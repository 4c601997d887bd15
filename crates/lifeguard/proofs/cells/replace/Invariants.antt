use Rattle.std.proofs.Common.{◌≡◌, ◌-◌}
use Rattle.lifeguard.specs.Shadow.{bytes_of, cell_value}
use Rattle.lifeguard.proofs.CellLemmas.{written}
use Rattle.lifeguard.proofs.cells.replace.Given as goal

abbrev pub invariant-loop-at : goal.invariant-loop-at
invariant-loop-at l = bytes_of l.cells ≡ written (λ i old. cell_value l.cell) l.addr (l.at - l.addr) (bytes_of l.fn.cells)

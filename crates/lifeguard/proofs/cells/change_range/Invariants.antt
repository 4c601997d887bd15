use Rattle.std.proofs.Common.{◌≡◌, ◌-◌}
use Rattle.std.specs.Prelude.{option_map}
use Rattle.lifeguard.specs.Shadow.{bytes_of}
use Rattle.lifeguard.proofs.CellLemmas.{written}
use Rattle.lifeguard.proofs.cells.change_range.Given as goal

abbrev pub invariant-loop-at : goal.invariant-loop-at
invariant-loop-at g l = bytes_of l.cells ≡ written (λ i. option_map ((g.L.Lifeguard.rules l.guard).range_state l.kind)) l.addr (l.at - l.addr) (bytes_of l.fn.cells)

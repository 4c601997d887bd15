use Rattle.std.proofs.Common.{◌≡◌}
use Rattle.std.specs.Prelude.{option_map}
use Rattle.lifeguard.specs.Plain.{mask_bit}
use Rattle.lifeguard.specs.Shadow.{bytes_of}
use Rattle.lifeguard.proofs.CellLemmas.{written}
use Rattle.lifeguard.proofs.cells.store.Given as goal

abbrev pub invariant-loop-i : goal.invariant-loop-i
invariant-loop-i g l = bytes_of l.cells ≡ written (λ i. option_map (λ old. (g.L.Lifeguard.rules l.guard).store_nibble old (mask_bit l.mask i))) l.addr l.i (bytes_of l.fn.cells)

use Rattle.std.proofs.Common.{◌≡◌, ◌-◌, ◌*◌, None}
use Rattle.lifeguard.specs.Shadow.{bytes_in}
use Rattle.lifeguard.proofs.CellLemmas.{written}
use Rattle.lifeguard.proofs.pages.unmap_pages.Given as goal

abbrev pub invariant-loop-number : goal.invariant-loop-number
invariant-loop-number l = bytes_in l.pages ≡ written (λ i old. None) (l.page * 4096) ((l.number - l.page) * 4096) (bytes_in l.fn.pages)

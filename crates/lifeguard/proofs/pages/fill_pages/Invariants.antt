use Rattle.std.proofs.Common.{◌≡◌, ◌-◌, ◌+◌, ◌*◌}
use Rattle.lifeguard.specs.Pages.{HasRoom}
use Rattle.lifeguard.specs.Shadow.{bytes_in, cell_value}
use Rattle.lifeguard.proofs.CellLemmas.{written}
use Rattle.lifeguard.proofs.pages.fill_pages.Given as goal

abbrev pub invariant-loop-number : goal.invariant-loop-number
invariant-loop-number l = record {
  room : HasRoom l.number (l.page + l.count - l.number) l.pages;
  bytes : bytes_in l.pages ≡ written (λ i old. cell_value l.cell) (l.page * 4096) ((l.number - l.page) * 4096) (bytes_in l.fn.pages);
}

use Rattle.std.proofs.Common.{◌≡◌, ◌-◌, ◌≤◌}
use Rattle.std.specs.Prelude.{option_map}
use Rattle.lifeguard.specs.Shadow.{bytes_in}
use Rattle.lifeguard.proofs.CellLemmas.{written}
use Rattle.lifeguard.proofs.pages.change_range_in.Given as goal

abbrev pub invariant-loop-done : goal.invariant-loop-done
invariant-loop-done g l = record {
  within : l.done ≤ l.len;
  bytes : bytes_in l.pages ≡ written (λ i. option_map ((g.L.Lifeguard.rules l.guard).range_state l.kind)) l.addr l.done (bytes_in l.fn.pages);
}

abbrev pub decreases-loop-done : goal.decreases-loop-done
decreases-loop-done g l = l.len - l.done

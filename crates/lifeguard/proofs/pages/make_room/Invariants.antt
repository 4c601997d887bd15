use Rattle.std.proofs.Common.{◌≡◌, ◌-◌}
use Rattle.lifeguard.specs.Pages.{HasRoom}
use Rattle.lifeguard.specs.Shadow.{bytes_in}
use Rattle.lifeguard.proofs.pages.make_room.Given as goal

abbrev pub invariant-loop-number : goal.invariant-loop-number
invariant-loop-number l = record {
  room : HasRoom l.page (l.number - l.page) l.pages;
  same : bytes_in l.pages ≡ bytes_in l.fn.pages;
}

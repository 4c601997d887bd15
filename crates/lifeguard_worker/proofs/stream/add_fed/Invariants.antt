use Rattle.std.proofs.Common.{◌≡◌, ◌+◌, ◌≤◌, ◌++◌, List, length, map, take}
use Rattle.lifeguard_worker.specs.Rows.{Item, item_of}
use Rattle.lifeguard_worker.proofs.stream.add_fed.Given as goal

abbrev pub invariant-loop-i : goal.invariant-loop-i
invariant-loop-i l = record {
  begins : (whole : List Item) → take (length l.initial.stream) whole ≡ l.initial.stream → take (l.from + length l.fed) whole ≡ take l.from l.initial.stream ++ map item_of l.fed → take (length l.stream) whole ≡ l.stream;
  more : length l.initial.stream ≤ length l.stream;
  inside : l.from + l.i ≤ length l.stream;
}

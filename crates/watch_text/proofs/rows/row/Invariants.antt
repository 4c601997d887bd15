use Rattle.std.proofs.Common.{◌≡◌, length, take, map, slice_index}
use Rattle.lifeguard.specs.State.{span}
use Rattle.watch_text.proofs.rows.row.Given as goal

abbrev pub invariant-loop-register : goal.invariant-loop-register
invariant-loop-register l = record {
  long : length l.masks ≡ 34;
  told : take l.register l.masks ≡ map (slice_index l.found.masks) (span 0 l.register);
}

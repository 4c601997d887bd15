use Rattle.std.proofs.Common.{◌≡◌, ◌++◌, length}
use Rattle.lifeguard_crew.proofs.pieces.take_piece.Given as goal

abbrev pub invariant-loop : goal.invariant-loop
invariant-loop g l = record {
  taken : g.F.Feed.rest l.initial.feed ≡ l.piece.items ++ g.F.Feed.rest l.feed;
  size : length l.piece.items ≡ l.counter;
}

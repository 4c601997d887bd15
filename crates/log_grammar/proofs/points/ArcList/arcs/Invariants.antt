use Rattle.std.proofs.Common.{◌≡◌, ◌<◌, ℕ, length, get_or, None}
use Rattle.pl_event.specs.Edges.{some_number}
use Rattle.log_grammar.proofs.points.ArcList.arcs.Given as goal

abbrev pub invariant-harts : goal.invariant-harts
invariant-harts l = record {
  eight : length l.arcs ≡ 8;
  set : (k : ℕ) → k < l.hart → get_or l.arcs k None ≡ some_number (get_or l.self.numbers k 0);
}

use Rattle.std.proofs.Common.{arith}
use Rattle.log_grammar.proofs.ArcLemmas.{same_arcs}
use Rattle.log_grammar.proofs.points.ArcList.arcs.Goals as goal

pub returns : goal.returns
returns c = same_arcs c.harts.arcs c.args.self.now.numbers c.harts.invariant.eight (omega arith) (λ k few. c.harts.invariant.set k (omega arith))

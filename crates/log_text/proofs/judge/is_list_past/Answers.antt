use Rattle.log_grammar.proofs.ArcLemmas.{any_past}
use Rattle.log_text.proofs.judge.is_list_past.Goals as goal

pub returns-then-has_arcs : goal.returns-then-has_arcs
returns-then-has_arcs c = λ arcs some shows.
    let sums = rw c.if-has_arcs.true at shows in
    rw sums.highest (any_past c.args.harts arcs some)

use Rattle.std.proofs.Common.{◌∙◌}
use Rattle.log_text.proofs.ArcRules.{breaks_arc-kept}
use Rattle.log_text.proofs.judge.has_bad_arcs.Goals as goal

pub returns-else-not-list : goal.returns-else-not-list
returns-else-not-list c = λ before arcs keeps shows sound.
    let sums = rw c.if-has_arcs.true at shows in
    c.some_arc_is_bad.ensures
    ∙ breaks_arc-kept c.args.tally.now before c.args.what arcs c.args.list.now c.record_hart.result keeps sums sound c.if-not-list.false c.record_hart.ensures

use Rattle.std.proofs.Common.{◌∙◌, sym}
use Rattle.core_sim.proofs.Lives.{find_here_at, find_over_at}
use Rattle.core_sim.proofs.turn.first_from.Goals as goal

pub loop-number-preserved : goal.loop-number-preserved
loop-number-preserved c =
    c.loop-number.invariant
    ∙ find_over_at c.args.harts.now c.loop-number.number c.args.from c.index-harts-number.result c.loop-number-test.true c.index-harts-number.is (sym c.is_live_from.ensures ∙ c.if-is_live_from.false)

pub returns-then-is_live_from-clause-first : goal.returns-then-is_live_from-clause-first
returns-then-is_live_from-clause-first c =
    sym (c.loop-number.invariant
    ∙ find_here_at c.args.harts.now c.loop-number.number c.args.from c.index-harts-number.result c.loop-number-test.true c.index-harts-number.is (sym c.is_live_from.ensures ∙ c.if-is_live_from.true))

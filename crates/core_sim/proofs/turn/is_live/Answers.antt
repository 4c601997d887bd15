use Rattle.std.proofs.Common.{◌∙◌, ap, sym, arith}
use Rattle.core_sim.specs.Harts.{is_live, live_harts, is_among_live}
use Rattle.core_sim.specs.declared.hart.Standing.{Standing}
use Rattle.core_sim.proofs.Lives.{among_at, past_live}
use Rattle.core_sim.proofs.turn.is_live.Goals as goal

pub returns-then-place-harts : goal.returns-then-place-harts
returns-then-place-harts c = sym (past_live c.args.harts.now 0 c.args.hart (omega arith))

pub returns : goal.returns
returns c =
    c.is_live.ensures ∙ ap (λ (h : Standing). is_live h.end) (sym c.index-harts-place.is)
    ∙ sym (among_at c.args.harts.now c.from-place.result c.index-harts-place.result c.if-place-harts.false c.index-harts-place.is)
    ∙ ap (is_among_live (live_harts c.args.harts.now)) c.from-place.ensures

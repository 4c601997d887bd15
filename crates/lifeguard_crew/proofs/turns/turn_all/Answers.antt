use Rattle.std.proofs.Common.{◌<◌, ℕ, length, sym, ◌∙◌, arith, length-set}
use Rattle.lifeguard_crew.specs.declared.round_end.RoundEnd.{RoundEnd}
use Rattle.lifeguard_crew.specs.inner.Slots.{Fits, MayTurn}
use Rattle.lifeguard_crew.proofs.SlotLemmas.{keeps_more, may_at, rests_more}
use Rattle.lifeguard_crew.proofs.turns.turn_all.Goals as goal

pub turn_slot-requires : goal.turn_slot-requires
turn_slot-requires g c =
    may_at (MayTurn g.P.Plan.planned g.W.TurnWorker.view c.args.monitor.now) (Fits g.P.Plan.planned g.W.TurnWorker.view c.args.monitor.now) c.args.row.now c.loop-h.row c.loop-h.h c.index-row-h.result
    (omega arith) c.requires.may c.loop-h.invariant.keeps

pub loop-h-preserved : goal.loop-h-preserved
loop-h-preserved g c =
    let row = c.loop-h.row in
    let h : ℕ = c.loop-h.h in
    let new = c.turn_slot.new.slot in
    let low : h < length row = omega arith in
    let turn : RoundEnd = c.in_ok-turn_slot.field-0 in
    record {
      few = omega (arith, length-set row h new, c.loop-h.invariant.few);
      keeps = keeps_more (MayTurn g.P.Plan.planned g.W.TurnWorker.view c.args.monitor.now) (Fits g.P.Plan.planned g.W.TurnWorker.view c.args.monitor.now) c.args.row.now row h c.index-row-h.result new low
          c.loop-h.invariant.keeps c.in_ok-turn_slot.ensures.keeps;
      rests = λ e. rests_more row h new c.loop-h.end turn low c.loop-h.invariant.rests c.in_ok-turn_slot.ensures.rests (sym c.and-end.ensures ∙ e);
    }

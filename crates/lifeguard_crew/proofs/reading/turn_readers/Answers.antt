use Rattle.std.proofs.Common.{◌<◌, ℕ, length, arith, length-set}
use Rattle.lifeguard_crew.specs.inner.Readers.{MayRead, Reads}
use Rattle.lifeguard_crew.proofs.SlotLemmas.{keeps_more, may_at}
use Rattle.lifeguard_crew.proofs.reading.turn_readers.Goals as goal

pub turn_slot-requires : goal.turn_slot-requires
turn_slot-requires g c =
    let planned = g.P.Plan.planned in
    let view = g.W.TurnWorker.view in
    let m = c.args.monitor.now in
    may_at (MayRead planned view m g.N.RunName.log c.args.rings.now.items) (Reads view) c.args.row.now c.loop-h.row c.loop-h.h c.index-row-h.result
    (omega arith) c.requires.may c.loop-h.invariant.keeps

pub loop-h-preserved : goal.loop-h-preserved
loop-h-preserved g c =
    let planned = g.P.Plan.planned in
    let view = g.W.TurnWorker.view in
    let m = c.args.monitor.now in
    let row = c.loop-h.row in
    let h : ℕ = c.loop-h.h in
    let new = c.turn_slot.new.slot in
    let low : h < length row = omega arith in
    record {
      few = omega (arith, length-set row h new, c.loop-h.invariant.few);
      keeps = keeps_more (MayRead planned view m g.N.RunName.log c.args.rings.now.items) (Reads view) c.args.row.now row h c.index-row-h.result new low
          c.loop-h.invariant.keeps c.in_ok-turn_slot.ensures;
    }

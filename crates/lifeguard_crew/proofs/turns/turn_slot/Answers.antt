use Rattle.lifeguard_crew.proofs.Same.{later_same}
use Rattle.lifeguard_crew.proofs.SlotLemmas.{keeps_end}
use Rattle.lifeguard_crew.proofs.turns.turn_slot.Goals as goal

pub returns-in-Done-clause-keeps : goal.returns-in-Done-clause-keeps
returns-in-Done-clause-keeps g c =
    let view = g.W.TurnWorker.view in
    rw c.in-Works.is (keeps_end g.P.Plan.planned view c.args.monitor.now c.in-Works.worker c.turn.new.self c.in-Works.number c.in-Works.number
    c.end_slot.new.slot (g.met.W.TurnWorker.sound c.turn.new.self) (later_same 1 (view c.in-Works.worker) (view c.turn.new.self) c.turn.ensures.later)
    (rw c.in-Works.is at c.requires) c.in-Done.ensures.answer.1 c.end_slot.ensures)

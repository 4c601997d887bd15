use Rattle.std.proofs.Common.{sym, subst}
use Rattle.guard_table.specs.declared.view.View.{View}
use Rattle.guard_table.specs.Seats.{note_view, seat_view}
use Rattle.lifeguard_worker.specs.Workers.{IsWorker}
use Rattle.lifeguard_worker.proofs.MoveLemmas.{worker_learnt}
use Rattle.lifeguard_worker.proofs.turns.WorkerTurnWorker.learn.Goals as goal

pub invariant_of-self : goal.invariant_of-self
invariant_of-self g c =
    let w = c.args.self.now in
    let rules = g.L.Lifeguard.rules w.guard in
    record {
      is = subst (λ (z : View). IsWorker rules z w.state w.told w.before w.stream w.fed w.ended) (sym c.learn.ensures.view)
          (worker_learnt rules (seat_view w.seat) w.state w.told w.before w.stream w.fed w.ended (g.met.L.Lifeguard.lawful w.guard) w.is (note_view c.args.note));
    }

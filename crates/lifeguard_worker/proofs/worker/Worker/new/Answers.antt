use Rattle.guard_table.specs.Seats.{seat_view}
use Rattle.lifeguard_worker.proofs.MoveLemmas.{worker_first}
use Rattle.lifeguard_worker.proofs.worker.Worker.new.Goals as goal

pub invariant_of-result : goal.invariant_of-result
invariant_of-result g c = record {
  is = worker_first (g.L.Lifeguard.rules c.args.guard) (seat_view c.args.seat) c.new.result c.new-2.result (g.met.L.Lifeguard.lawful c.args.guard) c.requires.run c.requires.written c.requires.progress c.new.ensures.taken c.new.ensures.parts c.new-2.ensures;
}

use Rattle.std.proofs.Common.{List, IfSome, sym, ap, subst}
use Rattle.guard_table.specs.declared.seats.Monitor.{Monitor}
use Rattle.stream_ring.specs.declared.ends.Ring.{Ring}
use Rattle.lifeguard_crew.specs.declared.slot.Slot.{Slot}
use Rattle.lifeguard_crew.specs.declared.reader.Reader.{Reader}
use Rattle.lifeguard_crew.specs.inner.Readers.{AreBack}
use Rattle.lifeguard_crew.proofs.reader_threads.start.Goals as goal

pub spawn_with-started-requires-clause-keeps : goal.spawn_with-started-requires-clause-keeps
spawn_with-started-requires-clause-keeps g c κs within r kept =
    let planned = g.P.Plan.planned in
    let view = g.W.TurnWorker.view in
    let log = g.N.RunName.log in
    subst (λ (p : Monitor g.row.P.Denot × (List (Ring g.row.N.Denot) × List (Slot (Reader g.row.N.Denot g.row.W.Denot)))).
    IfSome r (λ row. AreBack planned view p.0 log p.1.0 p.1.1 row.items))
    (λ i. (sym c.of.ensures i, (sym (ap (λ v. v.items) c.of-2.ensures) i, sym (ap (λ v. v.items) c.of-3.ensures) i))) kept

pub returns-in-Err-clause-err : goal.returns-in-Err-clause-err
returns-in-Err-clause-err g c = rw c.in-Err.ensures.err at c.spawn_with.ensures

use Rattle.std.proofs.Common.{◌≡◌, List, length, sym, ap, ◌∙◌, subst}
use Rattle.lifeguard_crew.specs.declared.slot.Slot.{Slot}
use Rattle.lifeguard_crew.specs.declared.reader.Reader.{Reader}
use Rattle.lifeguard_crew.specs.inner.Readers.{AreBack, KeepsReaders}
use Rattle.ring_feed.proofs.Pairs.{written_back}
use Rattle.lifeguard_crew.proofs.reader_threads.shift.Goals as goal

pub returns-then-read_row : goal.returns-then-read_row
returns-then-read_row g c =
    let planned = g.P.Plan.planned in
    let view = g.W.TurnWorker.view in
    let m = c.args.monitor.now in
    let log = g.N.RunName.log in
    let rings = c.args.rings.now.items in
    let old : List (Slot (Reader g.row.N.Denot g.row.W.Denot)) = c.args.row.items in
    let new : List (Slot (Reader g.row.N.Denot g.row.W.Denot)) = c.read_row.new.row in
    let value : c.as_mut_slice.result.now ≡ old = c.as_mut_slice.ensures.value in
    let long : length new ≡ length old = c.read_row.auto.row ∙ ap length value in
    let whole = written_back c.args.row.len old new c.args.row.ok.0 long in
    let kept : KeepsReaders planned view m log rings old new = subst (λ (z : List (Slot (Reader g.row.N.Denot g.row.W.Denot))). KeepsReaders planned view m log rings z new) value (c.read_row.ensures c.if-read_row.true) in
    subst (AreBack planned view m log rings old) (sym whole) (long, kept)

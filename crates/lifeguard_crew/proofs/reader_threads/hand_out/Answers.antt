use Rattle.std.proofs.Common.{rules, ℕ, IsTrue, List, [], ◌∷◌, map, sym, subst}
use Rattle.lifeguard_crew.specs.declared.slot.Slot.{Slot}
use Rattle.lifeguard_crew.specs.inner.Rows.{Each}
use Rattle.lifeguard_crew.specs.declared.reader.Reader.{Reader}
use Rattle.lifeguard_crew.specs.inner.Readers.{HasReaders, MayRead, Reads}
use Rattle.lifeguard_crew.proofs.Teams.{pass_then, pass_split}
use Rattle.lifeguard_crew.proofs.reader_threads.hand_out.Goals as goal

pub give-requires-clause-theirs : goal.give-requires-clause-theirs
give-requires-clause-theirs g c κs within =
    let planned = g.P.Plan.planned in
    let view = g.W.TurnWorker.view in
    let m = c.args.monitor.now in
    let log = g.N.RunName.log in
    let rings = c.args.rings.now.items in
    let may = MayRead planned view m log rings in
    let fit = Reads {N = g.row.N.Denot} view in
    let rows : List (List (Slot (Reader g.row.N.Denot g.row.W.Denot))) = map (λ x. x.promise.row.value.items) c.loop-i.threads.items in
    let parted = pass_split may fit tt (λ v. tt) c.loop-i.row c.part.new.own c.in-Ok.theirs.items rows c.in-Ok.ensures.split in
    (parted.may (c.loop-i.invariant.passes.may (c.requires.may, tt))).0

pub loop-i-preserved : goal.loop-i-preserved
loop-i-preserved g c =
    let on : IsTrue c.give.result = search rules in
    let planned = g.P.Plan.planned in
    let view = g.W.TurnWorker.view in
    let m = c.args.monitor.now in
    let log = g.N.RunName.log in
    let rings = c.args.rings.now.items in
    let may = MayRead planned view m log rings in
    let fit = Reads {N = g.row.N.Denot} view in
    let first : List (List (Slot (Reader g.row.N.Denot g.row.W.Denot))) = c.args.row.now ∷ [] in
    let own : List (Slot (Reader g.row.N.Denot g.row.W.Denot)) = c.part.new.own in
    let theirs : List (Slot (Reader g.row.N.Denot g.row.W.Denot)) = c.in-Ok.theirs.items in
    let rows : List (List (Slot (Reader g.row.N.Denot g.row.W.Denot))) = map (λ x. x.promise.row.value.items) c.loop-i.threads.items in
    let after : List (List (Slot (Reader g.row.N.Denot g.row.W.Denot))) = map (λ x. x.promise.row.value.items) c.give.new.threads.items in
    let parted = pass_then may fit first (c.loop-i.row ∷ rows) (theirs ∷ own ∷ rows) c.loop-i.invariant.passes
    (pass_split may fit tt (λ v. tt) c.loop-i.row own theirs rows c.in-Ok.ensures.split) in
    record {
      threads = subst (λ (n : ℕ). Each (λ x. HasReaders m rings n x.promise) c.give.new.threads.items) (sym c.give.auto.row)
          (c.give.ensures.threads on);
      passes = pass_then may fit first (theirs ∷ own ∷ rows) (c.give.new.row ∷ after) parted (c.give.ensures.passes on);
    }

use Rattle.std.proofs.Common.{rules, IsTrue, List, [], ◌∷◌, map}
use Rattle.lifeguard_crew.specs.declared.reader.Reader.{Reader}
use Rattle.lifeguard_crew.specs.declared.slot.Slot.{Slot}
use Rattle.lifeguard_crew.specs.inner.Readers.{MayRead, Reads}
use Rattle.lifeguard_crew.proofs.Teams.{pass_then, pass_kept}
use Rattle.lifeguard_crew.proofs.online.read_apart.Goals as goal

pub returns-clause-passes : goal.returns-clause-passes
returns-clause-passes g c on =
    let first : List (List (Slot (Reader g.row.N.Denot g.row.W.Denot))) = c.args.row.now ∷ [] in
    let one : List (Slot (Reader g.row.N.Denot g.row.W.Denot)) = c.hand_out.new.row in
    let two : List (Slot (Reader g.row.N.Denot g.row.W.Denot)) = c.feed_all.new.row in
    let three : List (Slot (Reader g.row.N.Denot g.row.W.Denot)) = c.read_row.new.row in
    let four : List (Slot (Reader g.row.N.Denot g.row.W.Denot)) = c.gather.new.row in
    let rows : List (List (Slot (Reader g.row.N.Denot g.row.W.Denot))) = map (λ x. x.promise.row.value.items) c.hand_out.new.threads.items in
    let handed : IsTrue c.hand_out.result = search rules in
    let fed : IsTrue c.feed_all.result = search rules in
    let ran : IsTrue c.read_row.result = search rules in
    let view = g.W.TurnWorker.view in
    let may = MayRead g.P.Plan.planned view c.args.monitor.now g.N.RunName.log c.args.rings.now.items in
    let fit = Reads {N = g.row.N.Denot} view in
    let a = pass_then may fit first (one ∷ rows) (two ∷ rows) (c.hand_out.ensures.passes handed) (pass_kept may fit one two rows (c.feed_all.ensures.keeps fed)) in
    let b = pass_then may fit first (two ∷ rows) (three ∷ rows) a (pass_kept may fit two three rows (c.read_row.ensures ran)) in
    pass_then may fit first (three ∷ rows) (four ∷ []) b (c.gather.ensures.passes on)

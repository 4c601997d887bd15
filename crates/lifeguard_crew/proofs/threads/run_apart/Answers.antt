use Rattle.std.proofs.Common.{rules, IsTrue, List, [], ◌∷◌, map}
use Rattle.lifeguard_crew.specs.declared.slot.Slot.{Slot}
use Rattle.lifeguard_crew.specs.inner.Slots.{Fits, MayTurn}
use Rattle.lifeguard_crew.proofs.Teams.{pass_then, pass_kept}
use Rattle.lifeguard_crew.proofs.threads.run_apart.Goals as goal

pub returns-clause-passes : goal.returns-clause-passes
returns-clause-passes g c on =
    let planned = g.P.Plan.planned in
    let view = g.W.TurnWorker.view in
    let m = c.args.monitor.now in
    let may = MayTurn planned view m in
    let fit = Fits planned view m in
    let first : List (List (Slot g.row.W.Denot)) = c.args.row.now ∷ [] in
    let one : List (Slot g.row.W.Denot) = c.hand_out.new.row in
    let two : List (Slot g.row.W.Denot) = c.run_row.new.row in
    let three : List (Slot g.row.W.Denot) = c.gather.new.row in
    let four : List (Slot g.row.W.Denot) = c.run_row-2.new.row in
    let rows : List (List (Slot g.row.W.Denot)) = map (λ x. x.promise.row.value.items) c.hand_out.new.threads.items in
    let handed : IsTrue c.hand_out.result = search rules in
    let ran : IsTrue c.run_row.result = search rules in
    let gathered : IsTrue c.gather.result = search rules in
    let a = pass_then may fit first (one ∷ rows) (two ∷ rows) (c.hand_out.ensures.passes handed) (pass_kept may fit one two rows (c.run_row.ensures.keeps ran)) in
    let b = pass_then may fit first (two ∷ rows) (three ∷ []) a (c.gather.ensures.passes gathered) in
    pass_then may fit first (three ∷ []) (four ∷ []) b (pass_kept may fit three four [] (c.run_row-2.ensures.keeps on))

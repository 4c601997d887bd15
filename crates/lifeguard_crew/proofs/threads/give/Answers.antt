use Rattle.std.proofs.Common.{rules, ◌≡◌, List, [], ◌∷◌, ◌++◌, length, map, sym, ap, ◌∙◌, subst}
use Rattle.std.proofs.lemmas.List.{map_push}
use Rattle.lifeguard_crew.specs.declared.slot.Slot.{Slot}
use Rattle.lifeguard_crew.specs.inner.Slots.{Fits, MayTurn}
use Rattle.lifeguard_crew.specs.inner.Rows.{Each, IsBack, Passes}
use Rattle.lifeguard_crew.proofs.Teams.{each_snoc, pass_then, pass_kept, pass_joined, pass_last}
use Rattle.lifeguard_crew.proofs.threads.give.Goals as goal

pub returns-in-Ok-clause-threads : goal.returns-in-Ok-clause-threads
returns-in-Ok-clause-threads g c on =
    let items : c.push_reserved.new.self.items ≡ c.args.threads.now.items ++ c.in-Ok.thread ∷ [] = search rules in
    let of = c.in-Ok.ensures.ok in
    subst (Each _) (sym items)
    (each_snoc _ c.args.threads.now.items c.in-Ok.thread c.requires.threads (of.0, ap length of.1 ∙ c.requires.len))

pub returns-in-Ok-clause-passes : goal.returns-in-Ok-clause-passes
returns-in-Ok-clause-passes g c on =
    let planned = g.P.Plan.planned in
    let view = g.W.TurnWorker.view in
    let m = c.args.monitor.now in
    let t = c.in-Ok.thread in
    let own : List (Slot g.row.W.Denot) = c.args.row.now in
    let theirs : List (Slot g.row.W.Denot) = c.args.theirs.items in
    let items : c.push_reserved.new.self.items ≡ c.args.threads.now.items ++ t ∷ [] = search rules in
    let may = MayTurn planned view m in
    let fit = Fits planned view m in
    let rows : List (List (Slot g.row.W.Denot)) = map (λ x. x.promise.row.value.items) c.args.threads.now.items in
    let listed = ap (map (λ x. x.promise.row.value.items)) items ∙ map_push (λ x. x.promise.row.value.items) c.args.threads.now.items t
    ∙ ap (λ (z : List (Slot g.row.W.Denot)). rows ++ z ∷ []) c.in-Ok.ensures.ok.1 in
    subst (λ z. Passes planned view m (theirs ∷ own ∷ rows) (own ∷ z)) (sym listed) (pass_last may fit theirs own rows)

pub returns-in-Err-Some-clause-passes : goal.returns-in-Err-Some-clause-passes
returns-in-Err-Some-clause-passes g c on =
    let planned = g.P.Plan.planned in
    let view = g.W.TurnWorker.view in
    let m = c.args.monitor.now in
    let may = MayTurn planned view m in
    let fit = Fits planned view m in
    let own : List (Slot g.row.W.Denot) = c.args.row.now in
    let theirs : List (Slot g.row.W.Denot) = c.args.theirs.items in
    let gave : List (Slot g.row.W.Denot) = c.in-Err-Some.theirs.items in
    let new : List (Slot g.row.W.Denot) = c.put_back.new.own in
    let rows : List (List (Slot g.row.W.Denot)) = map (λ x. x.promise.row.value.items) c.args.threads.now.items in
    let items : c.reserve.new.self.items ≡ c.args.threads.now.items = c.reserve.ensures.items in
    let back : IsBack planned view m theirs gave = rw c.in-Err-Some.field-0-is at c.in-Err-Some.ensures.err in
    let joined = pass_then may fit (theirs ∷ own ∷ rows) (gave ∷ own ∷ rows) (new ∷ rows)
    (pass_kept may fit theirs gave (own ∷ rows) back.1) (pass_joined may fit own gave new rows c.put_back.ensures) in
    subst (λ z. Passes planned view m (theirs ∷ own ∷ rows) (new ∷ map (λ x. x.promise.row.value.items) z)) (sym items) joined

use Rattle.std.proofs.Common.{rules, ◌≡◌, ℕ, List, [], ◌∷◌, ◌++◌, length, map, sym, ap, ◌∙◌, subst}
use Rattle.std.proofs.lemmas.List.{map_push}
use Rattle.guard_table.specs.declared.seats.Monitor.{Monitor}
use Rattle.lifeguard_crew.specs.declared.slot.Slot.{Slot}
use Rattle.lifeguard_crew.specs.inner.Slots.{Fits, MayTurn}
use Rattle.lifeguard_crew.specs.inner.Rows.{Each, HasRow, IsBack, Passes}
use Rattle.lifeguard_crew.proofs.Teams.{each_init, pass_then, pass_kept, pass_joined, pass_first, nil_of}
use Rattle.lifeguard_crew.proofs.threads.gather.Goals as goal

pub loop-thread-preserved : goal.loop-thread-preserved
loop-thread-preserved g c =
    let planned = g.P.Plan.planned in
    let view = g.W.TurnWorker.view in
    let m = c.args.monitor.now in
    let left = c.pop.new.self.items in
    let t = c.in-Some.thread in
    let items : c.loop-thread.threads.items ≡ left ++ t ∷ [] = search rules in
    let old = c.loop-thread.invariant in
    let took : List (Slot g.row.W.Denot) = t.promise.row.value.items in
    let gave : List (Slot g.row.W.Denot) = c.in-Some-join.theirs.items in
    let own : List (Slot g.row.W.Denot) = c.loop-thread.row in
    let new : List (Slot g.row.W.Denot) = c.put_back.new.own in
    let all = each_init _ left t (subst (Each _) items old.threads) in
    let back : IsBack planned view m took gave =
    subst (λ (other : Monitor g.row.P.Denot). IsBack planned view other took gave) all.1.0 c.in-Some-join.ensures in
    let before : List (List (Slot g.row.W.Denot)) = c.args.row.now ∷ map (λ x. x.promise.row.value.items) c.args.threads.items in
    let rows : List (List (Slot g.row.W.Denot)) = map (λ x. x.promise.row.value.items) left in
    let listed = ap (map (λ x. x.promise.row.value.items)) items ∙ map_push (λ x. x.promise.row.value.items) left t in
    let last : Passes planned view m before (own ∷ (rows ++ took ∷ [])) = subst (λ z. Passes planned view m before (own ∷ z)) listed old.passes in
    let may = MayTurn planned view m in
    let fit = Fits planned view m in
    let first = pass_then may fit before (own ∷ (rows ++ took ∷ [])) (took ∷ own ∷ rows) last (pass_first may fit own took rows) in
    let kept = pass_then may fit before (took ∷ own ∷ rows) (gave ∷ own ∷ rows) first (pass_kept may fit took gave (own ∷ rows) back.1) in
    record {
      threads = subst (λ (n : ℕ). Each (λ x. HasRow m n x.promise.monitor.value x.promise.row.value.items) left) (sym c.put_back.auto.own) all.0;
      passes = pass_then may fit before (gave ∷ own ∷ rows) (new ∷ rows) kept (pass_joined may fit own gave new rows c.put_back.ensures);
    }

pub returns : goal.returns
returns g c =
    let planned = g.P.Plan.planned in
    let view = g.W.TurnWorker.view in
    let m = c.args.monitor.now in
    let none : length c.loop-thread.threads.items ≡ 0 = search rules in
    let before : List (List (Slot g.row.W.Denot)) = c.args.row.now ∷ map (λ x. x.promise.row.value.items) c.args.threads.items in
    record {
      passes = λ on. subst (λ z. Passes planned view m before (c.loop-thread.row ∷ map (λ x. x.promise.row.value.items) z))
          (nil_of c.loop-thread.threads.items none) c.loop-thread.invariant.passes;
    }

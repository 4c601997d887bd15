use Rattle.std.proofs.Common.{◌≡◌, List, [], ◌∷◌, length, map, ap, sym, ◌∙◌, subst}
use Rattle.std.proofs.lemmas.List.{length-map}
use Rattle.lifeguard_crew.specs.declared.slot.Slot.{Slot}
use Rattle.lifeguard_crew.specs.inner.Slots.{manned, AllMayTurn}
use Rattle.lifeguard_crew.specs.inner.Rows.{Passes}
use Rattle.lifeguard_crew.proofs.Finish.{may_start, found_row, finished_row}
use Rattle.lifeguard_crew.proofs.threads.run_threads.Goals as goal

pub in_scope-requires-clause-may : goal.in_scope-requires-clause-may
in_scope-requires-clause-may g c κs within =
    let planned = g.P.Plan.planned in
    let view = g.W.TurnWorker.view in
    subst (AllMayTurn planned view c.args.monitor.now) (sym c.in_ok-row.ensures.row) (may_start planned view c.args.monitor.now c.args.workers.items c.requires)

pub collect-requires : goal.collect-requires
collect-requires g c =
    let planned = g.P.Plan.planned in
    let view = g.W.TurnWorker.view in
    let m = c.args.monitor.now in
    let ws = c.args.workers.items in
    let row : List (Slot g.row.W.Denot) = c.in-Some.ended.items in
    let long : length c.in_ok-row.row.items ≡ length ws = ap length c.in_ok-row.ensures.row ∙ length-map ws (manned {W = g.row.W.Denot}) in
    let passes : Passes planned view m (map manned ws ∷ []) (row ∷ []) =
    subst (λ (z : List (Slot g.row.W.Denot)). Passes planned view m (z ∷ []) (row ∷ [])) c.in_ok-row.ensures.row c.in-Some.ensures.passes in
    found_row planned view m ws c.requires row (c.in-Some.ensures.len ∙ long) passes c.in-Some.ensures.rests

pub returns : goal.returns
returns g c =
    let planned = g.P.Plan.planned in
    let view = g.W.TurnWorker.view in
    let m = c.args.monitor.now in
    let ws = c.args.workers.items in
    let row : List (Slot g.row.W.Denot) = c.in-Some.ended.items in
    let long : length c.in_ok-row.row.items ≡ length ws = ap length c.in_ok-row.ensures.row ∙ length-map ws (manned {W = g.row.W.Denot}) in
    let passes : Passes planned view m (map manned ws ∷ []) (row ∷ []) =
    subst (λ (z : List (Slot g.row.W.Denot)). Passes planned view m (z ∷ []) (row ∷ [])) c.in_ok-row.ensures.row c.in-Some.ensures.passes in
    finished_row planned view m ws c.requires row (c.in-Some.ensures.len ∙ long) passes c.in-Some.ensures.rests
    c.collect.result c.collect.ensures.results c.collect.ensures.seats c.collect.ensures.each

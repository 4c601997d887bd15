use Rattle.std.proofs.Common.{◌≡◌, [], ◌∷◌, List, length, sym, ap, ◌∙◌, subst}
use Rattle.lifeguard_crew.specs.declared.slot.Slot.{Slot}
use Rattle.lifeguard_crew.specs.inner.Rows.{Passes}
use Rattle.ring_feed.proofs.Pairs.{written_back}
use Rattle.lifeguard_crew.proofs.threads.run_all.Goals as goal

pub returns-then-run_apart-clause-passes : goal.returns-then-run_apart-clause-passes
returns-then-run_apart-clause-passes g c =
    let old : List (Slot g.row.W.Denot) = c.args.row.items in
    let new : List (Slot g.row.W.Denot) = c.run_apart.new.row in
    let value : c.as_mut_slice.result.now ≡ old = c.as_mut_slice.ensures.value in
    let long : length new ≡ length old = c.run_apart.auto.row ∙ ap length value in
    let whole = written_back c.args.row.len old new c.args.row.ok.0 long in
    let Led : List (Slot g.row.W.Denot) → List (Slot g.row.W.Denot) → Type 0 =
    λ us vs. Passes g.P.Plan.planned g.W.TurnWorker.view c.args.monitor.now (us ∷ []) (vs ∷ []) in
    subst (Led old) (sym whole) (subst (λ (z : List (Slot g.row.W.Denot)). Led z new) value (c.run_apart.ensures.passes c.if-run_apart.true))

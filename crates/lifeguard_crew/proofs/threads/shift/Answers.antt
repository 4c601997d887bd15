use Rattle.std.proofs.Common.{◌≡◌, List, length, sym, ap, ◌∙◌, subst}
use Rattle.lifeguard_crew.specs.declared.slot.Slot.{Slot}
use Rattle.lifeguard_crew.specs.inner.Slots.{KeepsRow}
use Rattle.lifeguard_crew.specs.inner.Rows.{IsBack}
use Rattle.ring_feed.proofs.Pairs.{written_back}
use Rattle.lifeguard_crew.proofs.threads.shift.Goals as goal

pub returns-then-run_row : goal.returns-then-run_row
returns-then-run_row g c =
    let planned = g.P.Plan.planned in
    let view = g.W.TurnWorker.view in
    let m = c.args.monitor.now in
    let old : List (Slot g.row.W.Denot) = c.args.row.items in
    let new : List (Slot g.row.W.Denot) = c.run_row.new.row in
    let value : c.as_mut_slice.result.now ≡ old = c.as_mut_slice.ensures.value in
    let long : length new ≡ length old = c.run_row.auto.row ∙ ap length value in
    let whole = written_back c.args.row.len old new c.args.row.ok.0 long in
    let kept : KeepsRow planned view m old new = subst (λ (z : List (Slot g.row.W.Denot)). KeepsRow planned view m z new) value (c.run_row.ensures.keeps c.if-run_row.true) in
    subst (IsBack planned view m old) (sym whole) (long, kept)

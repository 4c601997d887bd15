use Rattle.std.proofs.Common.{◌≡◌, [], ◌∷◌, List, length, sym, ap, ◌∙◌, subst}
use Rattle.ring_feed.specs.declared.outlet.Outlet.{Outlet}
use Rattle.lifeguard_crew.specs.declared.reader.Reader.{Reader}
use Rattle.lifeguard_crew.specs.declared.slot.Slot.{Slot}
use Rattle.ring_feed.specs.Outlets.{AreOutlets, AreWhole}
use Rattle.lifeguard_crew.specs.inner.Readers.{ReadersPass}
use Rattle.ring_feed.proofs.Pairs.{written_back}
use Rattle.lifeguard_crew.proofs.online.read_all.Goals as goal

pub returns-then-read_apart-clause-outlets : goal.returns-then-read_apart-clause-outlets
returns-then-read_apart-clause-outlets g c =
    let old : List (Outlet g.row.N.Denot) = c.args.outlets.items in
    let new : List (Outlet g.row.N.Denot) = c.read_apart.new.outlets in
    let long : length new ≡ length old = c.read_apart.auto.outlets ∙ ap length c.as_mut_slice.ensures.value in
    let whole = written_back c.args.outlets.len old new c.args.outlets.ok.0 long in
    let log = g.N.RunName.log in
    subst (λ (z : List (Outlet g.row.N.Denot)). AreOutlets log [] z × AreWhole log z) (sym whole)
    (c.read_apart.ensures.outlets c.if-read_apart.true, c.read_apart.ensures.whole c.if-read_apart.true)

pub returns-then-read_apart-clause-passes : goal.returns-then-read_apart-clause-passes
returns-then-read_apart-clause-passes g c =
    let old : List (Slot (Reader g.row.N.Denot g.row.W.Denot)) = c.args.row.items in
    let new : List (Slot (Reader g.row.N.Denot g.row.W.Denot)) = c.read_apart.new.row in
    let value : c.as_mut_slice-2.result.now ≡ old = c.as_mut_slice-2.ensures.value in
    let long : length new ≡ length old = c.read_apart.auto.row ∙ ap length value in
    let whole = written_back c.args.row.len old new c.args.row.ok.0 long in
    let Pass : List (Slot (Reader g.row.N.Denot g.row.W.Denot)) → List (Slot (Reader g.row.N.Denot g.row.W.Denot)) → Type 0 =
    λ us vs. ReadersPass g.P.Plan.planned g.W.TurnWorker.view c.args.monitor.now g.N.RunName.log c.args.rings.now.items (us ∷ []) (vs ∷ []) in
    subst (Pass old) (sym whole) (subst (λ (z : List (Slot (Reader g.row.N.Denot g.row.W.Denot))). Pass z new) value (c.read_apart.ensures.passes c.if-read_apart.true))

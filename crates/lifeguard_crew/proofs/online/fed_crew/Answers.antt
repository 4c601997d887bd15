use Rattle.std.proofs.Common.{List, sym, ap, ◌∙◌, subst, arith}
use Rattle.ring_feed.specs.declared.outlet.Outlet.{Outlet}
use Rattle.lifeguard_crew.specs.Drivers.{IsReadyCrew}
use Rattle.lifeguard_crew.specs.inner.Online.{EachLed, IsSameWorker}
use Rattle.ring_feed.specs.Outlets.{AreWhole}
use Rattle.lifeguard_crew.specs.inner.Readers.{AreDrained}
use Rattle.lifeguard_crew.proofs.Drained.{drained_ready, drained_same, ok_then, still_readers}
use Rattle.lifeguard_crew.proofs.online.fed_crew.Goals as goal

pub in_scope-requires-clause-few : goal.in_scope-requires-clause-few
in_scope-requires-clause-few g c κs within =
    omega (arith, c.in_ok-rings.ensures.can.harts, ap (λ z. z.harts) c.requires.log, c.requires.crew.crew.size, c.in_ok-row.ensures.size)

pub ready_workers-requires-clause-readers : goal.ready_workers-requires-clause-readers
ready_workers-requires-clause-readers g c =
    still_readers g.P.Plan.planned g.W.TurnWorker.view c.args.monitor.now g.N.RunName.log c.in_ok-rings.field-0.rings.items c.args.workers.items
    c.in_ok-row.row.items c.in-Some.row.items c.in_ok-row.ensures.all (c.in-Some.ensures.len ∙ c.in_ok-row.ensures.size) c.in-Some.ensures.passes
    c.requires.crew c.in_ok-row.ensures.may

pub ready_workers-requires-clause-whole : goal.ready_workers-requires-clause-whole
ready_workers-requires-clause-whole g c =
    subst (λ (z : List (Outlet g.row.N.Denot)). AreWhole g.N.RunName.log z) (sym c.as_slice-in-Some.ensures.value) c.in-Some.ensures.outlets.1

pub returns-in-Some-clause-ready : goal.returns-in-Some-clause-ready
returns-in-Some-clause-ready g c =
    let planned = g.P.Plan.planned in
    let view = g.W.TurnWorker.view in
    let m = c.args.monitor.now in
    ok_then (λ us. AreDrained planned view m c.in-Some.row.items us.items) (λ us. IsReadyCrew planned view m us.items) c.ready_workers.result
    (λ us drained. drained_ready planned view m g.N.RunName.log c.in_ok-rings.field-0.rings.items c.args.workers.items c.in_ok-row.row.items c.in-Some.row.items
    c.in_ok-row.ensures.all (c.in-Some.ensures.len ∙ c.in_ok-row.ensures.size) c.in-Some.ensures.passes us.items c.requires.crew drained) c.ready_workers.ensures

pub returns-in-Some-clause-same : goal.returns-in-Some-clause-same
returns-in-Some-clause-same g c =
    let planned = g.P.Plan.planned in
    let view = g.W.TurnWorker.view in
    let m = c.args.monitor.now in
    ok_then (λ us. AreDrained planned view m c.in-Some.row.items us.items) (λ us. EachLed IsSameWorker view c.args.workers.items us.items) c.ready_workers.result
    (λ us drained. drained_same planned view m g.N.RunName.log c.in_ok-rings.field-0.rings.items c.args.workers.items c.in_ok-row.row.items c.in-Some.row.items
    c.in_ok-row.ensures.all (c.in-Some.ensures.len ∙ c.in_ok-row.ensures.size) c.in-Some.ensures.passes us.items drained) c.ready_workers.ensures

use Rattle.std.proofs.Common.{rules, ◌≡◌, ◌<◌, ◌++◌, [], ◌∷◌, ℕ, List, length, sym, ap, ◌∙◌, subst, arith}
use Rattle.std.proofs.lemmas.Iterator.Adapters.{YieldsList-from_vec}
use Rattle.std.proofs.lemmas.Iterator.Consumers.{YieldsList-turn}
use mathlib.Core.Option.{some}
use lib.ListN.{get_elem?}
use Rattle.stream_ring.specs.Flow.{stream_of}
use Rattle.ring_feed.specs.declared.outlet.Outlet.{Outlet}
use Rattle.lifeguard_crew.specs.inner.Readers.{AreDrained, IsReaderOf}
use Rattle.ring_feed.proofs.Pairs.{at_here}
use Rattle.lifeguard_crew.proofs.ReaderSteps.{drained_push, found_at, is_works}
use Rattle.lifeguard_crew.proofs.drain.ready_workers.Goals as goal

pub ready_worker-requires-clause-reader : goal.ready_worker-requires-clause-reader
ready_worker-requires-clause-reader g c =
    let vec = YieldsList-from_vec c.args.row.items (search rules) (search rules) in
    let turn = YieldsList-turn vec c.loop-slot.yielded c.loop-slot.slot-iterator c.loop-slot.yielded_by _ c.next.new.self c.in-Some.slot c.in-Some.is c.next.ensures.steps in
    let n : ℕ = length c.loop-slot.yielded in
    let is = c.requires.readers n c.in-Some.slot (at_here c.args.row.items n c.in-Some.slot turn.0 turn.1) in
    (subst (IsReaderOf g.P.Plan.planned g.W.TurnWorker.view c.args.monitor.now g.N.RunName.log c.args.rings.now.items n) c.in-Works.is is).0

pub ready_worker-requires-clause-all : goal.ready_worker-requires-clause-all
ready_worker-requires-clause-all g c =
    let n : ℕ = length c.loop-slot.yielded in
    let outlets : List (Outlet g.row.N.Denot) = c.args.outlets.now in
    let o : Outlet g.row.N.Denot = c.index-outlets-len.result in
    let at : c.len.result ≡ n = omega (arith, c.loop-slot.invariant.size) in
    let count : c.count-all.result ≡ o.count = search rules in
    let vec = YieldsList-from_vec c.args.row.items (search rules) (search rules) in
    let turn = YieldsList-turn vec c.loop-slot.yielded c.loop-slot.slot-iterator c.loop-slot.yielded_by _ c.next.new.self c.in-Some.slot c.in-Some.is c.next.ensures.steps in
    let low : n < length outlets = omega (arith, turn.0, c.requires.size, c.requires.outlets.size) in
    let is = c.requires.readers n c.in-Some.slot (at_here c.args.row.items n c.in-Some.slot turn.0 turn.1) in
    let hart = (subst (IsReaderOf g.P.Plan.planned g.W.TurnWorker.view c.args.monitor.now g.N.RunName.log c.args.rings.now.items n) c.in-Works.is is).1 in
    let here : get_elem? outlets n ≡ some o = found_at outlets n c.len.result o at low c.index-outlets-len.is in
    count ∙ ((c.requires.outlets.each n o here).count
    ∙ (ap length (c.requires.whole n o here) ∙ ap (λ (h : ℕ). length (stream_of g.N.RunName.log h)) (sym hart)))

pub loop-slot-preserved : goal.loop-slot-preserved
loop-slot-preserved g c =
    let ws = c.loop-slot.workers.items in
    let w = c.in_ok-ready_worker-in-Works.field-0 in
    let push : c.push.new.self.items ≡ ws ++ w ∷ [] = c.in_ok-push-in-Works.ensures.items in
    let all = drained_push g.P.Plan.planned g.W.TurnWorker.view c.args.monitor.now c.loop-slot.yielded ws c.in-Some.slot c.in-Works.worker c.in-Works.number w
    c.loop-slot.invariant c.in-Works.is c.in_ok-ready_worker-in-Works.ensures.ready c.in_ok-ready_worker-in-Works.ensures.same in
    subst (AreDrained g.P.Plan.planned g.W.TurnWorker.view c.args.monitor.now (c.loop-slot.yielded ++ c.in-Some.slot ∷ [])) (sym push) all

pub unreachable-requires : goal.unreachable-requires
unreachable-requires g c =
    let vec = YieldsList-from_vec c.args.row.items (search rules) (search rules) in
    let turn = YieldsList-turn vec c.loop-slot.yielded c.loop-slot.slot-iterator c.loop-slot.yielded_by _ c.next.new.self c.in-Some.slot c.in-Some.is c.next.ensures.steps in
    let n : ℕ = length c.loop-slot.yielded in
    let is = c.requires.readers n c.in-Some.slot (at_here c.args.row.items n c.in-Some.slot turn.0 turn.1) in
    is_works g.P.Plan.planned g.W.TurnWorker.view c.args.monitor.now g.N.RunName.log c.args.rings.now.items n c.in-Some.slot is c.in_default.not-Works

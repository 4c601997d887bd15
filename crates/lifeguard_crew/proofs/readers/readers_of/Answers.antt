use Rattle.std.proofs.Common.{rules, ◌≡◌, ◌<◌, ◌++◌, ◌∷◌, [], ℕ, List, length, length-append, append_assoc, sym, ap, ◌∙◌, subst, arith}
use Rattle.std.proofs.lemmas.Iterator.Adapters.{YieldsList-from_vec}
use Rattle.std.proofs.lemmas.Iterator.Consumers.{YieldsList-end, YieldsList-turn}
use mathlib.Core.Option.{some}
use lib.ListN.{get_elem?}
use Rattle.std.specs.Vec.Iter.{into_iter_items}
use Rattle.stream_ring.specs.declared.ends.TakePass.{TakePass}
use Rattle.lifeguard_crew.specs.declared.reader.Reader.{Reader}
use Rattle.lifeguard_crew.specs.declared.slot.Slot.{Slot}
use Rattle.lifeguard_crew.specs.declared.slot.Slot.TheVariants.{Works}
use Rattle.lifeguard_crew.specs.inner.Online.{fixed}
use Rattle.lifeguard_crew.specs.inner.Readers.{AllMayRead, AllRead, MayRead, Reads}
use Rattle.lifeguard_crew.specs.inner.Slots.{IsManned}
use Rattle.lifeguard_crew.proofs.Fills.{at_seam, each_slot, each_with}
use Rattle.ring_feed.proofs.Pairs.{at_here, map_self}
use Rattle.lifeguard_crew.proofs.Same.{at_place}
use Rattle.lifeguard_crew.proofs.readers.readers_of.Goals as goal

pub reader_of-worker-requires-clause-inside : goal.reader_of-worker-requires-clause-inside
reader_of-worker-requires-clause-inside g c =
    let vec = YieldsList-from_vec c.args.workers.items (search rules) (search rules) in
    let turn = YieldsList-turn vec c.loop-worker.yielded c.loop-worker.worker-iterator c.loop-worker.yielded_by _ c.next.new.self c.in-Some.worker c.in-Some.is c.next.ensures.steps in
    let n : ℕ = length c.loop-worker.yielded in
    let hart = c.requires.crew.crew.hart n c.in-Some.worker (at_here c.args.workers.items n c.in-Some.worker turn.0 turn.1) in
    omega (arith, turn.0, hart, c.requires.rings.size, c.requires.crew.crew.size, ap (λ z. z.harts) c.requires.log)

pub reader_of-worker-requires-clause-of : goal.reader_of-worker-requires-clause-of
reader_of-worker-requires-clause-of g c ring here =
    let vec = YieldsList-from_vec c.args.workers.items (search rules) (search rules) in
    let turn = YieldsList-turn vec c.loop-worker.yielded c.loop-worker.worker-iterator c.loop-worker.yielded_by _ c.next.new.self c.in-Some.worker c.in-Some.is c.next.ensures.steps in
    let n : ℕ = length c.loop-worker.yielded in
    let hart = c.requires.crew.crew.hart n c.in-Some.worker (at_here c.args.workers.items n c.in-Some.worker turn.0 turn.1) in
    let pass : TakePass g.row.N.Denot = c.in-Some-next.pass in
    let done = c.loop-worker.invariant.passes in
    let takes : c.args.takes.items ≡ done.0 ++ pass ∷ into_iter_items c.next-in-loop-worker.new.self =
    done.2 ∙ ap (λ (z : List (TakePass g.row.N.Denot)). done.0 ++ z) c.in-Some-next.ensures.items in
    let at : get_elem? c.args.takes.items n ≡ some pass =
    ap (λ (z : List (TakePass g.row.N.Denot)). get_elem? z n) takes ∙ at_seam done.0 (into_iter_items c.next-in-loop-worker.new.self) pass n done.1 in
    (c.requires.takes.of n ring pass (subst (λ (h : ℕ). get_elem? c.args.rings.now.items h ≡ some ring) hart here) at).0

pub reader_of-worker-requires-clause-none : goal.reader_of-worker-requires-clause-none
reader_of-worker-requires-clause-none g c =
    let vec = YieldsList-from_vec c.args.workers.items (search rules) (search rules) in
    let turn = YieldsList-turn vec c.loop-worker.yielded c.loop-worker.worker-iterator c.loop-worker.yielded_by _ c.next.new.self c.in-Some.worker c.in-Some.is c.next.ensures.steps in
    let n : ℕ = length c.loop-worker.yielded in
    let low : n < length c.args.rings.now.items = omega (arith, turn.0, c.requires.rings.size, c.requires.crew.crew.size, ap (λ z. z.harts) c.requires.log) in
    let ring = at_place c.args.rings.now.items n low in
    let pass : TakePass g.row.N.Denot = c.in-Some-next.pass in
    let done = c.loop-worker.invariant.passes in
    let takes : c.args.takes.items ≡ done.0 ++ pass ∷ into_iter_items c.next-in-loop-worker.new.self =
    done.2 ∙ ap (λ (z : List (TakePass g.row.N.Denot)). done.0 ++ z) c.in-Some-next.ensures.items in
    let at : get_elem? c.args.takes.items n ≡ some pass =
    ap (λ (z : List (TakePass g.row.N.Denot)). get_elem? z n) takes ∙ at_seam done.0 (into_iter_items c.next-in-loop-worker.new.self) pass n done.1 in
    (c.requires.takes.of n ring.0 pass ring.1 at).1

pub reader_of-worker-requires-clause-fresh : goal.reader_of-worker-requires-clause-fresh
reader_of-worker-requires-clause-fresh g c =
    let vec = YieldsList-from_vec c.args.workers.items (search rules) (search rules) in
    let turn = YieldsList-turn vec c.loop-worker.yielded c.loop-worker.worker-iterator c.loop-worker.yielded_by _ c.next.new.self c.in-Some.worker c.in-Some.is c.next.ensures.steps in
    let n : ℕ = length c.loop-worker.yielded in
    c.requires.crew.fresh n c.in-Some.worker (at_here c.args.workers.items n c.in-Some.worker turn.0 turn.1)

pub loop-worker-preserved : goal.loop-worker-preserved
loop-worker-preserved g c =
    let planned = g.P.Plan.planned in
    let view = g.W.TurnWorker.view in
    let m = c.args.monitor.now in
    let log = g.N.RunName.log in
    let rings = c.args.rings.now.items in
    let old = c.loop-worker.invariant in
    let row : List (Slot (Reader g.row.N.Denot g.row.W.Denot)) = c.loop-worker.row.items in
    let s : Slot (Reader g.row.N.Denot g.row.W.Denot) = Works c.reader_of-worker.result 1 in
    let push : c.push.new.self.items ≡ row ++ s ∷ [] = c.in_ok-push.ensures.items in
    let same = ap (λ (w : g.row.W.Denot). fixed (view w)) c.reader_of-worker.ensures.worker in
    let pass : TakePass g.row.N.Denot = c.in-Some-next.pass in
    let rest = into_iter_items c.next-in-loop-worker.new.self in
    record {
      size = omega (arith, ap length push, length-append row (s ∷ []), length-append c.loop-worker.yielded (c.in-Some.worker ∷ []), old.size);
      may = subst (AllMayRead planned view m log rings) (sym push) (each_slot (MayRead planned view m log rings) row s old.may c.reader_of-worker.ensures.reader);
      all = subst (AllRead view (c.loop-worker.yielded ++ c.in-Some.worker ∷ [])) (sym push)
          (each_with (λ (w : g.row.W.Denot) (t : Slot (Reader g.row.N.Denot g.row.W.Denot)). IsManned t × Reads view (view w) t) c.loop-worker.yielded row c.in-Some.worker s
          old.size old.all (tt, same));
      passes = (
        old.passes.0 ++ pass ∷ [],
        omega (arith, length-append old.passes.0 (pass ∷ []), length-append c.loop-worker.yielded (c.in-Some.worker ∷ []), old.passes.1),
        old.passes.2 ∙ (ap (λ (z : List (TakePass g.row.N.Denot)). old.passes.0 ++ z) c.in-Some-next.ensures.items ∙ sym (append_assoc old.passes.0 (pass ∷ []) rest)),
      );
    }

pub returns-clause-all : goal.returns-clause-all
returns-clause-all g c =
    let vec = YieldsList-from_vec c.args.workers.items (search rules) (search rules) in
    let last = YieldsList-end vec c.loop-worker.yielded c.loop-worker.worker-iterator c.loop-worker.yielded_by _ c.next.new.self c.in-None.is c.next.ensures.steps in
    let all : c.loop-worker.yielded ≡ c.args.workers.items = sym (map_self c.loop-worker.yielded) ∙ last.0 in
    subst (λ (ws : List g.row.W.Denot). AllRead g.W.TurnWorker.view ws c.loop-worker.row.items) all c.loop-worker.invariant.all

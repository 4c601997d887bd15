use Rattle.std.proofs.Common.{rules, ◌≡◌, ℕ, ◌++◌, ◌∷◌, [], List, length, map, sym, ap, ◌∙◌, subst, arith}
use Rattle.std.proofs.lemmas.Iterator.Adapters.{YieldsList-from_vec}
use Rattle.std.proofs.lemmas.Iterator.Consumers.{YieldsList-end, YieldsList-turn}
use Rattle.std.proofs.lemmas.List.{length_push, length-map}
use mathlib.Core.Option.{some}
use lib.ListN.{get_elem?}
use Rattle.guard_table.specs.declared.seats.GuardSeat.{GuardSeat}
use Rattle.guard_table.specs.Seats.{seat_view}
use Rattle.turn_worker.specs.declared.worker.HartResult.{HartResult}
use Rattle.turn_worker.specs.Workers.{IsOfTable}
use Rattle.turn_worker.specs.Results.{IsResult}
use Rattle.lifeguard_crew.proofs.Same.{of_map}
use Rattle.ring_feed.proofs.Pairs.{at_here, pairs_more, map_self}
use Rattle.lifeguard_crew.proofs.one_thread.end_all.Goals as goal

pub end-result-requires : goal.end-result-requires
end-result-requires g c =
    let all = YieldsList-from_vec c.args.workers.items (search rules) (search rules) in
    let turn = YieldsList-turn all c.loop-worker.yielded c.loop-worker.worker-iterator c.loop-worker.yielded_by _ c.next.new.self c.in-Some.worker c.in-Some.is c.next.ensures.steps in
    c.requires.ended (length c.loop-worker.yielded) c.in-Some.worker (at_here c.args.workers.items (length c.loop-worker.yielded) c.in-Some.worker turn.0 turn.1)

pub loop-worker-preserved : goal.loop-worker-preserved
loop-worker-preserved g c =
    let view = g.W.TurnWorker.view in
    let o = c.loop-worker.invariant in
    let done = c.loop-worker.yielded in
    let w = c.in-Some.worker in
    let results : List HartResult = c.loop-worker.results.items in
    let seats : List GuardSeat = c.loop-worker.seats.items in
    let r : HartResult = c.end-result.result.0 in
    let s : GuardSeat = c.end-result.result.1 in
    let more_results : c.push_reserved.new.self.items ≡ results ++ r ∷ [] = c.push_reserved.ensures.items in
    let more_seats : c.push_reserved-in-loop-worker.new.self.items ≡ seats ++ s ∷ [] = c.push_reserved-in-loop-worker.ensures.items in
    let Result : g.row.W.Denot → HartResult → Type 0 = λ x y. IsResult (view x) y in
    let Seat : g.row.W.Denot → GuardSeat → Type 0 = λ x y. (seat_view y ≡ (view x).seat) × IsOfTable (view x).table y in
    record {
      results = omega (arith, ap length more_results, length_push results r, length_push done w, o.results);
      seats = omega (arith, ap length more_seats, length_push seats s, length_push done w, o.seats);
      results_room = c.push_reserved.ensures.capacity ∙ o.results_room;
      seats_room = c.push_reserved-in-loop-worker.ensures.capacity ∙ o.seats_room;
      result = subst (λ (z : List HartResult). (k : ℕ) (x : g.row.W.Denot) (y : HartResult) → get_elem? (done ++ w ∷ []) k ≡ some x
          → get_elem? z k ≡ some y → Result x y) (sym more_results)
          (pairs_more Result done results w r o.results o.result c.end-result.ensures.result);
      seat = subst (λ (z : List GuardSeat). (k : ℕ) (x : g.row.W.Denot) (y : GuardSeat) → get_elem? (done ++ w ∷ []) k ≡ some x
          → get_elem? z k ≡ some y → Seat x y) (sym more_seats)
          (pairs_more Seat done seats w s o.seats o.seat (c.end-result.ensures.seat, c.end-result.ensures.table));
    }

pub returns : goal.returns
returns g c =
    let view = g.W.TurnWorker.view in
    let o = c.loop-worker.invariant in
    let ws = c.args.workers.items in
    let vec = YieldsList-from_vec ws (search rules) (search rules) in
    let last = YieldsList-end vec c.loop-worker.yielded c.loop-worker.worker-iterator c.loop-worker.yielded_by _ c.next.new.self c.in-None.is c.next.ensures.steps in
    let all : c.loop-worker.yielded ≡ ws = sym (map_self c.loop-worker.yielded) ∙ last.0 in
    let long : length c.loop-worker.yielded ≡ length (map view ws) = ap length all ∙ sym (length-map ws view) in
    record {
      results = o.results ∙ long;
      seats = o.seats ∙ long;
      result = λ k v r at_v at_r. let w = of_map view ws k v at_v in
          subst (λ z. IsResult z r) w.2 (o.result k w.0 r (subst (λ z. get_elem? z k ≡ some w.0) (sym all) w.1) at_r);
      seat = λ k v s at_v at_s. let w = of_map view ws k v at_v in
          subst (λ z. (seat_view s ≡ z.seat) × IsOfTable z.table s) w.2
          (o.seat k w.0 s (subst (λ z. get_elem? z k ≡ some w.0) (sym all) w.1) at_s);
    }

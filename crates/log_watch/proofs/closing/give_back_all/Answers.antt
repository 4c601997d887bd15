use Rattle.std.proofs.Common.{rules, ◌≡◌, ◌∷◌, [], ◌+◌, ◌++◌, ◌<◌, ℕ, suc, List, length, sym, ap, ◌∙◌, subst, arith}
use Rattle.std.specs.Prelude.{Contains}
use Rattle.std.proofs.lemmas.Iterator.Adapters.{YieldsList-from_vec}
use Rattle.std.proofs.lemmas.Iterator.Consumers.{YieldsList-end, YieldsList-turn}
use Rattle.std.proofs.lemmas.List.{length_push}
use mathlib.Core.Logic.{dite}
use mathlib.Core.Option.{some}
use native.Mathlib.Decide.{ℕ_discrete}
use lib.ListN.{get_elem?}
use Rattle.order_core.specs.Course.{course, length_of}
use Rattle.guard_table.specs.declared.view.View.{View}
use Rattle.guard_table.specs.Seats.{head_view, plan_of}
use Rattle.lifeguard_crew.specs.Drivers.{IsSeatAtEnd}
use Rattle.ring_feed.proofs.Pairs.{at_here, map_self}
use Rattle.log_watch.proofs.closing.give_back_all.Goals as goal

-- a number is one of a list with one more at its front
one_more : (freed : List ℕ) (n : ℕ) → ((k : ℕ) → k < n → Contains freed k) → (k : ℕ) → k < n + 1 → Contains (n ∷ freed) k
one_more freed n each k low = dite (ℕ_discrete k n)
    (λ (same : k ≡ n). (0, omega arith, sym same))
    (λ other. let c = each k (let l : k < n + 1 = low in let o : k ≡ n → ⊥ = other in omega arith) in (suc c.0, (let l : c.0 < length freed = c.1 in omega arith), c.2))

pub give_back-requires-clause-seat : goal.give_back-requires-clause-seat
give_back-requires-clause-seat g c =
    let all = YieldsList-from_vec c.args.seats.items (search rules) (search rules) in
    let turn = YieldsList-turn all c.loop-seat.yielded c.loop-seat.seat-iterator c.loop-seat.yielded_by _ c.next.new.self c.in-Some.seat c.in-Some.is c.next.ensures.steps in
    (c.requires.seats (length c.loop-seat.yielded) c.in-Some.seat (at_here c.args.seats.items (length c.loop-seat.yielded) c.in-Some.seat turn.0 turn.1)).of

pub give_back-requires-clause-ended : goal.give_back-requires-clause-ended
give_back-requires-clause-ended g c =
    let all = YieldsList-from_vec c.args.seats.items (search rules) (search rules) in
    let turn = YieldsList-turn all c.loop-seat.yielded c.loop-seat.seat-iterator c.loop-seat.yielded_by _ c.next.new.self c.in-Some.seat c.in-Some.is c.next.ensures.steps in
    let end = c.requires.seats (length c.loop-seat.yielded) c.in-Some.seat (at_here c.args.seats.items (length c.loop-seat.yielded) c.in-Some.seat turn.0 turn.1) in
    end.end ∙ ap (length_of (course g.P.Plan.planned (plan_of c.args.monitor.now))) (sym end.hart)

pub loop-seat-preserved : goal.loop-seat-preserved
loop-seat-preserved g c =
    let all = YieldsList-from_vec c.args.seats.items (search rules) (search rules) in
    let turn = YieldsList-turn all c.loop-seat.yielded c.loop-seat.seat-iterator c.loop-seat.yielded_by _ c.next.new.self c.in-Some.seat c.in-Some.is c.next.ensures.steps in
    let end = c.requires.seats (length c.loop-seat.yielded) c.in-Some.seat (at_here c.args.seats.items (length c.loop-seat.yielded) c.in-Some.seat turn.0 turn.1) in
    let n : ℕ = length c.loop-seat.yielded in (
      c.give_back.ensures.of,
      λ k low.
          subst (λ (z : View). Contains z.freed k) (sym c.give_back.ensures.head) (subst (λ (h : ℕ). Contains (h ∷ (head_view c.loop-seat.head).freed) k) (sym end.hart)
          (one_more (head_view c.loop-seat.head).freed n c.loop-seat.invariant.1 k (let l : k < length (c.loop-seat.yielded ++ c.in-Some.seat ∷ []) = low in let e = length_push c.loop-seat.yielded c.in-Some.seat in omega arith))),
    )

pub returns-clause-freed : goal.returns-clause-freed
returns-clause-freed g c k low =
    let vec = YieldsList-from_vec c.args.seats.items (search rules) (search rules) in
    let last = YieldsList-end vec c.loop-seat.yielded c.loop-seat.seat-iterator c.loop-seat.yielded_by _ c.next.new.self c.in-None.is c.next.ensures.steps in
    let all : c.loop-seat.yielded ≡ c.args.seats.items = sym (map_self c.loop-seat.yielded) ∙ last.0 in
    c.loop-seat.invariant.1 k (subst (λ z. k < length z) (sym all) low)

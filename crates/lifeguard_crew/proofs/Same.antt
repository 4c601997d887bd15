-- What does not change while workers are turned and taught.
use Rattle.std.proofs.Common.{◌≡◌, ℕ, zero, suc, ◌<◌, ◌≤◌, List, [], ◌∷◌, length, map, get_or, refl, sym, ap, ◌∙◌, subst, arith}
use Rattle.std.proofs.Math.Logic.{∥∥₁_elim}
use Rattle.std.proofs.Props.{props}
use Rattle.std.proofs.lemmas.List.{length-map}
use mathlib.Core.Option.{some, some-injective, some-ne-none}
use lib.ListN.{get_elem?}
use Rattle.atomic_table.proofs.Lists.{at_map}
use Rattle.order_core.proofs.Flatten.{inside}
use Rattle.order_core.specs.declared.course.Course.{Course}
use Rattle.order_core.specs.Lawful.{IsLawful}
use Rattle.order_core.specs.Course.{Planned, length_of}
use Rattle.guard_table.specs.declared.view.View.{View}
use Rattle.guard_table.specs.declared.seats.GuardSeat.{GuardSeat}
use Rattle.guard_table.specs.declared.seats.Monitor.{Monitor}
use Rattle.guard_table.specs.Seats.{seat_view}
use Rattle.lifeguard.specs.Ranges.{reports_on}
use Rattle.turn_worker.specs.declared.worker.HartResult.{HartResult}
use Rattle.turn_worker.specs.Workers.{WorkerView, IsSound, IsOfTable, size}
use Rattle.turn_worker.specs.Turns.{IsLaterBy, HasEnded}
use Rattle.lifeguard.specs.Plain.{final_state}
use Rattle.turn_worker.specs.Results.{IsResult, checks_of}
use Rattle.lifeguard_crew.specs.declared.finished.Finished.{Finished}
use Rattle.lifeguard_crew.specs.Drivers.{IsReady, IsReadyCrew, IsSeatAtEnd, IsFinished}
use Rattle.lifeguard_crew.specs.inner.Rounds.{lasting, AreSame, HaveFound}

pub at_place : {A : Type 0} (xs : List A) (i : ℕ) → i < length xs → (x : A) × (get_elem? xs i ≡ some x)
at_place [] i lt = absurd (omega arith)
at_place (x ∷ xs) zero lt = (x, refl)
at_place (x ∷ xs) (suc i) lt = at_place xs i (omega arith)

pub of_map : {A B : Type 0} (f : A → B) (xs : List A) (i : ℕ) (y : B) → get_elem? (map f xs) i ≡ some y
    → (x : A) × (get_elem? xs i ≡ some x) × (f x ≡ y)
of_map f [] i y e = absurd (some-ne-none y (sym e))
of_map f (x ∷ xs) zero y e = (x, refl, some-injective (f x) y e)
of_map f (x ∷ xs) (suc i) y e = of_map f xs i y e

pub later_same : (n : ℕ) (v w : WorkerView) → IsLaterBy n v w → lasting w ≡ lasting v
later_same n v w later =
    ap lasting later.same
    ∙ ap (λ s. record v {
      seat = record s { written = 0; progress = 0; seen = []; learnt = []; looks = [] };
      taken = 0;
      spare = 0;
    }) later.seat

pub result_same : (v w : WorkerView) (r : HartResult) → lasting w ≡ lasting v → IsResult w r → IsResult v r
result_same v w r e is = record {
  hart = is.hart ∙ ap (λ (z : WorkerView). z.seat.hart) e;
  reports = is.reports ∙ ap (λ (z : WorkerView). reports_on z.seat.hart (final_state z.rules z.seat.course.log).reports) e;
  masks = λ register lt. is.masks register lt ∙ ap (λ (z : WorkerView). (final_state z.rules z.seat.course.log).masks z.seat.hart register) e;
  checks = is.checks ∙ ap (λ (z : WorkerView). checks_of z.rules z.seat.hart z.seat.course.log.lines) e;
  misses = is.misses ∙ ap (λ (z : WorkerView). z.misses (size z)) e;
}

pub ready_same : {P : Type 0} (planned : P → Planned) (m : Monitor P) (v w : WorkerView) → lasting w ≡ lasting v
    → IsReady planned m v → IsReady planned m w
ready_same planned m v w e is = record {
  at = (
    ap (λ (z : WorkerView). z.table) e ∙ is.at.0,
    ap (λ (z : WorkerView). z.seat.course) e ∙ is.at.1,
  );
  plan = is.plan ∙ sym (ap (λ (z : WorkerView). z.plan) e);
  ended = ap (λ (z : WorkerView). z.ended) e ∙ is.ended;
}

pub same_self : (vs : List WorkerView) → AreSame vs vs
same_self vs = record {
  size = refl;
  each = λ k v w was now. ap lasting (some-injective w v (sym now ∙ was));
}

pub same_then : (us vs ws : List WorkerView) → AreSame us vs → AreSame vs ws → AreSame us ws
same_then us vs ws a b = record {
  size = b.size ∙ a.size;
  each = λ k u w was now.
      let lt : k < length us = inside us k u was in
      let sizes : length vs ≡ length us = a.size in
      let v = at_place vs k (omega arith) in
      b.each k v.0 w v.1 now ∙ a.each k u v.0 was v.1;
}

module _ {P W : Type 0} (planned : P → Planned) (view : W → WorkerView) (m : Monitor P) (ws us : List W)
    (crew : IsReadyCrew planned view m ws) (same : AreSame (map view ws) (map view us)) where
  pub size_same : length us ≡ length ws
  size_same = sym (length-map us view) ∙ (same.size ∙ length-map ws view)

  -- the worker that was there
  before : (k : ℕ) (u : W) → get_elem? us k ≡ some u
      → (w : W) × (get_elem? ws k ≡ some w) × (lasting (view u) ≡ lasting (view w))
  before k u here =
      let lt : k < length us = inside us k u here in
      let sizes : length us ≡ length ws = size_same in
      let w = at_place ws k (omega arith) in
      (w.0, w.1, same.each k (view w.0) (view u) (at_map view ws k w.0 w.1) (at_map view us k u here))

  pub still_ready : IsReadyCrew planned view m us
  still_ready = record {
    crew = record {
      size = size_same ∙ crew.crew.size;
      course = λ k u here. let w = before k u here in
          ap (λ (z : WorkerView). z.seat.course) w.2 ∙ crew.crew.course k w.0 w.1;
      hart = λ k u here. let w = before k u here in
          ap (λ (z : WorkerView). z.seat.hart) w.2 ∙ crew.crew.hart k w.0 w.1;
    };
    ready = λ k u here. let w = before k u here in
        ready_same planned m (view w.0) (view u) w.2 (crew.ready k w.0 w.1);
  }

pub few_harts : (c : Course) → ∥ IsLawful c ∥₁ → c.log.harts ≤ 8
few_harts c lawful = let p : IsProp (c.log.harts ≤ 8) = hlevel props in ∥∥₁_elim lawful p (λ law. law.log.opening.few)

-- the seat of a worker that has ended
pub seat_at_end : {P : Type 0} (planned : P → Planned) (m : Monitor P) (v : WorkerView) → IsSound v → IsReady planned m v
    → HasEnded v → (s : GuardSeat) → (seat_view s ≡ v.seat) × IsOfTable v.table s → IsSeatAtEnd planned m v.seat.hart s
seat_at_end planned m v sound ready end s found =
    let told = ap (λ (z : View). z.progress) found.0 ∙ end.used.told ∙ end.used.all ∙ sound.whole ready.ended in
    record {
      of = (found.1 ∙ ready.at.0, ap (λ (z : View). z.course) found.0 ∙ ready.at.1);
      hart = ap (λ (z : View). z.hart) found.0;
      end = told ∙ ap (λ (z : Course). length_of z v.seat.hart) ready.at.1;
    }

-- what was found of the workers at the end was found of those at the start
module _ {P W : Type 0} (planned : P → Planned) (view : W → WorkerView) (sound : (w : W) → IsSound (view w)) (m : Monitor P)
    (ws us : List W) (crew : IsReadyCrew planned view m ws) (same : AreSame (map view ws) (map view us)) where
  ended_seat : (k : ℕ) (u : W) (s : GuardSeat) → get_elem? us k ≡ some u → HasEnded (view u)
      → (seat_view s ≡ (view u).seat) × IsOfTable (view u).table s → IsSeatAtEnd planned m k s
  ended_seat k u s here end found =
      let now = still_ready planned view m ws us crew same in
      subst (λ (h : ℕ). IsSeatAtEnd planned m h s) (now.crew.hart k u here)
      (seat_at_end planned m (view u) (sound u) (now.ready k u here) end s found)

  pub finished : (f : Finished) → ((k : ℕ) (u : W) → get_elem? us k ≡ some u → HasEnded (view u))
      → HaveFound (map view us) f → IsFinished planned view m ws f
  finished f end found = record {
    results = found.results ∙ length-map us view ∙ size_same planned view m ws us crew same;
    seats = found.seats ∙ length-map us view ∙ size_same planned view m ws us crew same;
    result = λ k w r was here.
        let lt : k < length ws = inside ws k w was in
        let sizes : length us ≡ length ws = size_same planned view m ws us crew same in
        let u = at_place us k (omega arith) in
        let there = at_map view us k u.0 u.1 in
        result_same (view w) (view u.0) r (same.each k (view w) (view u.0) (at_map view ws k w was) there)
        (found.result k (view u.0) r there here);
    seat = λ k s here.
        let lt : k < length f.seats.items = inside f.seats.items k s here in
        let all : length f.seats.items ≡ length us = found.seats ∙ length-map us view in
        let u = at_place us k (omega arith) in
        ended_seat k u.0 s u.1 (end k u.0 u.1) (found.seat k (view u.0) s (at_map view us k u.0 u.1) here);
  }

-- What the rows of a run have at its end.
use Rattle.std.proofs.Common.{◌≡◌, ℕ, zero, suc, ◌<◌, ◌≤◌, List, [], ◌∷◌, length, map, get_or, Result, Ok, Err, IfOk, Vec, Global, refl, sym, ap, ◌∙◌, subst, arith, inl, ⊎_elim}
use Rattle.std.proofs.lemmas.List.{length-map}
use mathlib.Core.Option.{some, some-injective, some-ne-none}
use mathlib.Core.Logic.{dite}
use native.Mathlib.Decide.{dec_le}
use lib.ListN.{get_elem?}
use Rattle.pl_base.specs.declared.outside.NoMemory.{NoMemory}
use Rattle.order_core.proofs.Flatten.{inside}
use Rattle.order_core.specs.Course.{Planned, course}
use Rattle.guard_table.specs.Seats.{plan_of}
use Rattle.guard_table.specs.declared.seats.GuardSeat.{GuardSeat}
use Rattle.guard_table.specs.declared.seats.Monitor.{Monitor}
use Rattle.turn_worker.specs.declared.worker.HartResult.{HartResult}
use Rattle.turn_worker.specs.Workers.{WorkerView}
use Rattle.turn_worker.specs.Results.{IsResult}
use Rattle.lifeguard_crew.specs.declared.finished.Finished.{Finished}
use Rattle.lifeguard_crew.specs.declared.slot.Slot.{Slot}
use Rattle.lifeguard_crew.specs.declared.slot.Slot.TheVariants.{Idle, Works, Ended}
use Rattle.lifeguard_crew.specs.Drivers.{IsReadyCrew, IsSeatAtEnd, IsFinished}
use Rattle.lifeguard_crew.specs.inner.Slots.{slot_at, manned, IsManned, IsAtRest, AreAtRest, HasFoundAll, MayTurn, AllMayTurn, Fits}
use Rattle.lifeguard_crew.specs.inner.Rows.{SomeOf, Passes}
use Rattle.lifeguard_crew.proofs.Same.{at_place}
use Rattle.lifeguard_crew.proofs.RowSteps.{past}

pub get_at : {A : Type 0} (xs : List A) (k : ℕ) (x d : A) → get_elem? xs k ≡ some x → get_or xs k d ≡ x
get_at [] k x d e = absurd (some-ne-none x (sym e))
get_at (y ∷ ys) zero x d e = some-injective y x e
get_at (y ∷ ys) (suc k) x d e = get_at ys k x d e

found_all : {W : Type 0} (s : Slot W) → IsManned s → IsAtRest s → HasFoundAll s
found_all Idle a r = a
found_all (Works w n) a r = r
found_all (Ended x s) a r = tt

module _ {W : Type 0} where
  manned_at : (ws : List W) (k : ℕ) (w : W) → get_elem? ws k ≡ some w → slot_at (map manned ws) k ≡ Works w 1
  manned_at [] k w e = absurd (some-ne-none w (sym e))
  manned_at (u ∷ ws) zero w e = ap (λ (z : W). Works z 1) (some-injective u w e)
  manned_at (u ∷ ws) (suc k) w e = manned_at ws k w e

module _ {P W : Type 0} (planned : P → Planned) (view : W → WorkerView) (m : Monitor P) (ws : List W) (crew : IsReadyCrew planned view m ws) where
  pub may_start : AllMayTurn planned view m (map manned ws)
  may_start h = dite (dec_le (length ws) h)
      (λ beyond. let long : length (map (manned {W = W}) ws) ≡ length ws = length-map ws (manned {W = W}) in
      subst (MayTurn planned view m) (sym (past (map manned ws) h (omega arith))) tt)
      (λ within. let w = at_place ws h (omega arith) in
      subst (MayTurn planned view m) (sym (manned_at ws h w.0 w.1)) (crew.ready h w.0 w.1))

  module _ (row : List (Slot W)) (len : length row ≡ length ws) (passes : Passes planned view m (map manned ws ∷ []) (row ∷ [])) (rests : AreAtRest row) where
    fits_at : (k : ℕ) (w : W) → get_elem? ws k ≡ some w → Fits planned view m (view w) (slot_at row k)
    fits_at k w here = (passes.fits k (view w) (subst (Fits planned view m (view w)) (sym (manned_at ws k w here)) refl, tt)).0

    manned_row : (k : ℕ) → k < length row → IsManned (slot_at row k)
    manned_row k lt =
        let w = at_place ws k (omega arith) in
        ⊎_elim (λ (a : IsManned (slot_at row k)). a) (λ (b : SomeOf (λ (r : List (Slot W)). IsManned (slot_at r k)) []). absurd b)
        (passes.manned k (inl (subst (λ (z : Slot W). IsManned z) (sym (manned_at ws k w.0 w.1)) tt)))

    pub found_row : (k : ℕ) → k < length row → HasFoundAll (slot_at row k)
    found_row k lt = found_all (slot_at row k) (manned_row k lt) (rests k)

    has_ended : (k : ℕ) (w : W) (r : HartResult) (s : GuardSeat) → get_elem? ws k ≡ some w → slot_at row k ≡ Ended r s
        → IsResult (view w) r × IsSeatAtEnd planned m k s
    has_ended k w r s here is =
        let both : IsResult (view w) r × IsSeatAtEnd planned m (view w).seat.hart s = subst (Fits planned view m (view w)) is (fits_at k w here) in
        (both.0, subst (λ (h : ℕ). IsSeatAtEnd planned m h s) (crew.crew.hart k w here) both.1)

    pub finished_row : (o : Result Finished NoMemory) → IfOk o (λ f. length f.results.items ≡ length row)
        → IfOk o (λ f. length f.seats.items ≡ length row)
        → IfOk o (λ f. (k : ℕ) (r : HartResult) (s : GuardSeat) → k < length row → slot_at row k ≡ Ended (get_or f.results.items k r) (get_or f.seats.items k s))
        → IfOk o (IsFinished planned view m ws)
    finished_row (Err e) a b each = a
    finished_row (Ok f) a b each = record {
      results = a ∙ len;
      seats = b ∙ len;
      result = λ k w r was here.
          let lt : k < length ws = inside ws k w was in
          let s = at_place f.seats.items k (omega arith) in
          let is = each k r s.0 (omega arith) ∙ (λ i. Ended (get_at f.results.items k r r here i) (get_at f.seats.items k s.0 s.0 s.1 i)) in
          (has_ended k w r s.0 was is).0;
      seat = λ k s here.
          let lt : k < length f.seats.items = inside f.seats.items k s here in
          let w = at_place ws k (omega arith) in
          let r = at_place f.results.items k (omega arith) in
          let is = each k r.0 s (omega arith) ∙ (λ i. Ended (get_at f.results.items k r.0 r.0 r.1 i) (get_at f.seats.items k s s here i)) in
          (has_ended k w.0 r.0 s w.1 is).1;
    }

pub few_slots : {P W : Type 0} (planned : P → Planned) (view : W → WorkerView) (m : Monitor P) (ws : List W) → IsReadyCrew planned view m ws
    → (course planned (plan_of m)).log.harts ≤ 8 → (o : Result (Vec (Slot W) Global) NoMemory) → IfOk o (λ row. row.items ≡ map manned ws)
    → IfOk o (λ row. length row.items ≤ 8)
few_slots planned view m ws crew few (Err e) is = is
few_slots {W = W} planned view m ws crew few (Ok row) is =
    let long : length (map (manned {W = W}) ws) ≡ length ws = length-map ws (manned {W = W}) in
    let size : length ws ≡ (course planned (plan_of m)).log.harts = crew.crew.size in
    let items : length row.items ≡ length (map (manned {W = W}) ws) = ap length is in
    omega arith

-- What a turn makes of a slot.
use Rattle.std.proofs.Common.{◌≡◌, ℕ, ◌+◌, ◌<◌, List, length, set, get_or, refl, sym, ap, ◌∙◌, subst, arith}
use Rattle.std.proofs.lemmas.List.{get_or-set_same, get_or-set_other}
use mathlib.Core.Logic.{dite}
use native.Mathlib.Decide.{ℕ_discrete}
use Rattle.order_core.specs.Course.{Planned}
use Rattle.guard_table.specs.declared.seats.GuardSeat.{GuardSeat}
use Rattle.guard_table.specs.declared.seats.Monitor.{Monitor}
use Rattle.guard_table.specs.Seats.{seat_view}
use Rattle.turn_worker.specs.declared.worker.HartResult.{HartResult}
use Rattle.turn_worker.specs.Workers.{WorkerView, IsSound, IsOfTable}
use Rattle.turn_worker.specs.Turns.{HasEnded}
use Rattle.turn_worker.specs.Results.{IsResult}
use Rattle.lifeguard_crew.specs.declared.slot.Slot.{Slot}
use Rattle.lifeguard_crew.specs.declared.round_end.RoundEnd.{RoundEnd}
use Rattle.lifeguard_crew.specs.declared.round_end.RoundEnd.TheVariants.{Moved, Waited, Ended}
use Rattle.lifeguard_crew.specs.declared.slot.Slot.TheVariants.{Idle, Works}
use Rattle.lifeguard_crew.specs.declared.slot.Slot.TheVariants as slot
use Rattle.lifeguard_crew.specs.Drivers.{IsReady, IsSeatAtEnd}
use Rattle.lifeguard_crew.specs.inner.Rounds.{lasting, both}
use Rattle.lifeguard_crew.specs.inner.Slots.{slot_at, AreKept, IsAtRest, IsEndOf, IsKept, KeepsSlot}
use Rattle.lifeguard_crew.proofs.RowSteps.{any_default}
use Rattle.lifeguard_crew.proofs.Same.{result_same, ready_same, seat_at_end}

module _ {W : Type 0} (May : Slot W → Type 0) (Fit : WorkerView → Slot W → Type 0) where
  pub keeps_self : (s : Slot W) → IsKept May Fit s s
  keeps_self s = ((λ a. a), (λ v f. f), (λ a. a))

  pub keeps_then : (a b c : Slot W) → IsKept May Fit a b → IsKept May Fit b c → IsKept May Fit a c
  keeps_then a b c p q = ((λ x. q.0 (p.0 x)), (λ v f. q.1 v (p.1 v f)), (λ x. q.2 (p.2 x)))

  pub rows_then : (a b c : List (Slot W)) → AreKept May Fit a b → AreKept May Fit b c → AreKept May Fit a c
  rows_then a b c p q h = keeps_then (slot_at a h) (slot_at b h) (slot_at c h) (p h) (q h)

  keeps_set : (old row : List (Slot W)) (h : ℕ) (s : Slot W) → h < length row → AreKept May Fit old row
      → IsKept May Fit (slot_at row h) s → AreKept May Fit old (set row h s)
  keeps_set old row h s low kept step k = dite (ℕ_discrete k h)
      (λ here.
      let is : slot_at (set row h s) k ≡ s = ap (λ (j : ℕ). slot_at (set row h s) j) here ∙ get_or-set_same row h s Idle low in
      let all : IsKept May Fit (slot_at old h) s = keeps_then (slot_at old h) (slot_at row h) s (kept h) step in
      subst (IsKept May Fit (slot_at old k)) (sym is) (subst (λ (j : ℕ). IsKept May Fit (slot_at old j) s) (sym here) all))
      (λ other. subst (IsKept May Fit (slot_at old k)) (sym (get_or-set_other row h k s Idle other)) (kept k))

  -- one slot more has had its turn
  pub keeps_more : (old row : List (Slot W)) (h : ℕ) (d s : Slot W) → h < length row → AreKept May Fit old row
      → IsKept May Fit (get_or row h d) s → AreKept May Fit old (set row h s)
  keeps_more old row h d s low kept step = keeps_set old row h s low kept
      (subst (λ (z : Slot W). IsKept May Fit z s) (any_default row h d Idle low) step)

  pub may_at : (old row : List (Slot W)) (h : ℕ) (d : Slot W) → h < length row → ((k : ℕ) → May (slot_at old k)) → AreKept May Fit old row
      → May (get_or row h d)
  may_at old row h d low may kept = subst May (sym (any_default row h d Idle low)) ((kept h).0 (may h))

module _ {P W : Type 0} (planned : P → Planned) (view : W → WorkerView) (m : Monitor P) where
  pub keeps_worker : (w u : W) (n k : ℕ) → lasting (view u) ≡ lasting (view w) → KeepsSlot planned view m (Works w n) (Works u k)
  keeps_worker w u n k e = (ready_same planned m (view w) (view u) e, (λ v f. e ∙ f), (λ a. a))

  pub keeps_ended : (w u : W) (n : ℕ) (r : HartResult) (s : GuardSeat) → IsSound (view u) → lasting (view u) ≡ lasting (view w)
      → IsReady planned m (view w) → HasEnded (view u) → IsResult (view u) r → (seat_view s ≡ (view u).seat) × IsOfTable (view u).table s
      → KeepsSlot planned view m (Works w n) (slot.Ended r s)
  keeps_ended w u n r s sound e ready end is found = (
    (λ a. tt),
    (λ v f.
        let same : lasting (view u) ≡ lasting v = e ∙ f in
        let seat = seat_at_end planned m (view u) sound (ready_same planned m (view w) (view u) e ready) end s found in
        (result_same v (view u) r same is, subst (λ (h : ℕ). IsSeatAtEnd planned m h s) (ap (λ (z : WorkerView). z.seat.hart) same) seat)),
    (λ a. a),
  )

  pub keeps_end : (w u : W) (n k : ℕ) (new : Slot W) → IsSound (view u) → lasting (view u) ≡ lasting (view w) → IsReady planned m (view w)
      → HasEnded (view u) → IsEndOf view (Works u k) new → KeepsSlot planned view m (Works w n) new
  keeps_end w u n k Idle sound e ready end is = absurd is
  keeps_end w u n k (Works _ _) sound e ready end is = absurd is
  keeps_end w u n k (slot.Ended r s) sound e ready end is = keeps_ended w u n r s sound e ready end is.0 (is.1, is.2)

both_ended : (a b : RoundEnd) → both a b ≡ Ended → (a ≡ Ended) × (b ≡ Ended)
both_ended Moved b e = absurd (cc)
both_ended Waited Moved e = absurd (cc)
both_ended Waited Waited e = absurd (cc)
both_ended Waited Ended e = absurd (cc)
both_ended Ended b e = (refl, e)

pub rests_more : {W : Type 0} (row : List (Slot W)) (h : ℕ) (s : Slot W) (a b : RoundEnd) → h < length row
    → (a ≡ Ended → (k : ℕ) → k < h → IsAtRest (slot_at row k)) → (b ≡ Ended → IsAtRest s)
    → both a b ≡ Ended → (k : ℕ) → k < h + 1 → IsAtRest (slot_at (set row h s) k)
rests_more row h s a b low old own e k lt =
    let ends = both_ended a b e in
    dite (ℕ_discrete k h)
    (λ here. subst IsAtRest (sym (ap (λ (j : ℕ). slot_at (set row h s) j) here ∙ get_or-set_same row h s Idle low)) (own ends.1))
    (λ other. subst IsAtRest (sym (get_or-set_other row h k s Idle other)) (old ends.0 k (omega arith)))

-- Steps of the loops over rows.
use Rattle.std.proofs.Common.{◌≡◌, ◌≢◌, ◌<◌, ◌≤◌, ◌+◌, ℕ, zero, suc, List, [], ◌∷◌, ◌++◌, length, set, get_or, sym, refl, ap, ◌∙◌, subst, ⊎_elim, arith}
use Rattle.std.proofs.lemmas.List.{get_or-set_same, get_or-set_other, get_or_append_left}
use Rattle.std.proofs.Math.Seq.{get_or-append_seam}
use mathlib.Core.Logic.{dite}
use native.Mathlib.Decide.{ℕ_discrete}
use Rattle.guard_table.specs.declared.seats.GuardSeat.{GuardSeat}
use Rattle.turn_worker.specs.declared.worker.HartResult.{HartResult}
use Rattle.lifeguard_crew.specs.declared.slot.Slot.{Slot}
use Rattle.lifeguard_crew.specs.declared.slot.Slot.TheVariants.{Idle, Ended}
use Rattle.lifeguard_crew.specs.inner.Slots.{slot_at, IsSplit}

module _ {W : Type 0} where
  pub past : (row : List (Slot W)) (k : ℕ) → length row ≤ k → slot_at row k ≡ Idle
  past [] k h = refl
  past (x ∷ xs) zero h = absurd (omega arith)
  past (x ∷ xs) (suc k) h = past xs k (omega arith)

  -- what is in the row is there whatever the default is
  pub any_default : (row : List (Slot W)) (h : ℕ) (d e : Slot W) → h < length row → get_or row h d ≡ get_or row h e
  any_default [] h d e low = absurd (omega arith)
  any_default (x ∷ xs) zero d e low = refl
  any_default (x ∷ xs) (suc h) d e low = any_default xs h d e (omega arith)

  append_other : (row : List (Slot W)) (x : Slot W) (k : ℕ) → k ≢ length row → slot_at (row ++ x ∷ []) k ≡ slot_at row k
  append_other [] x zero n = absurd (n refl)
  append_other [] x (suc k) n = refl
  append_other (y ∷ ys) x zero n = refl
  append_other (y ∷ ys) x (suc k) n = append_other ys x k (λ e. n (ap suc e))

  split_here : (old own theirs new x : Slot W) → theirs ≡ Idle → IsSplit old own theirs → IsSplit own new x → IsSplit old new x
  split_here old own theirs new x idle was step =
      let same : own ≡ old = ⊎_elim (λ (p : (own ≡ old) × (theirs ≡ Idle)). p.0) (λ (p : (own ≡ Idle) × (theirs ≡ old)). p.0 ∙ sym idle ∙ p.1) was in
      subst (λ o. IsSplit o new x) same step

  pub split_step : (old own row : List (Slot W)) (h : ℕ) (new x : Slot W) → length row ≡ h → h < length own
      → ((k : ℕ) → IsSplit (slot_at old k) (slot_at own k) (slot_at row k)) → IsSplit (slot_at own h) new x
      → (k : ℕ) → IsSplit (slot_at old k) (slot_at (set own h new) k) (slot_at (row ++ x ∷ []) k)
  split_step old own row h new x len low was step k = dite (ℕ_discrete k h)
      (λ e.
      let own' : new ≡ slot_at (set own h new) k = sym (ap (λ j. slot_at (set own h new) j) e ∙ get_or-set_same own h new Idle low) in
      let row' : x ≡ slot_at (row ++ x ∷ []) k = sym (ap (λ j. slot_at (row ++ x ∷ []) j) (e ∙ sym len) ∙ get_or-append_seam row x [] Idle) in
      let at : IsSplit (slot_at own k) new x = subst (λ j. IsSplit (slot_at own j) new x) (sym e) step in
      let both : IsSplit (slot_at old k) new x = split_here (slot_at old k) (slot_at own k) (slot_at row k) new x (past row k (omega arith)) (was k) at in
      subst (λ (p : Slot W × Slot W). IsSplit (slot_at old k) p.0 p.1) (λ i. (own' i, row' i)) both)
      (λ n.
      let own' : slot_at own k ≡ slot_at (set own h new) k = sym (get_or-set_other own h k new Idle n) in
      let row' : slot_at row k ≡ slot_at (row ++ x ∷ []) k = sym (append_other row x k (λ e. n (e ∙ len))) in
      subst (λ (p : Slot W × Slot W). IsSplit (slot_at old k) p.0 p.1) (λ i. (own' i, row' i)) (was k))

  pub collect_step : (row : List (Slot W)) (results : List HartResult) (seats : List GuardSeat) (h : ℕ) (r0 : HartResult) (s0 : GuardSeat) → length results ≡ h → length seats ≡ h
      → ((k : ℕ) (r : HartResult) (s : GuardSeat) → k < h → slot_at row k ≡ Ended (get_or results k r) (get_or seats k s)) → slot_at row h ≡ Ended r0 s0
      → (k : ℕ) (r : HartResult) (s : GuardSeat) → k < h + 1 → slot_at row k ≡ Ended (get_or (results ++ r0 ∷ []) k r) (get_or (seats ++ s0 ∷ []) k s)
  collect_step row results seats h r0 s0 a b was here k r s low = dite (ℕ_discrete k h)
      (λ e.
      let x : get_or (results ++ r0 ∷ []) k r ≡ r0 = ap (λ j. get_or (results ++ r0 ∷ []) j r) (e ∙ sym a) ∙ get_or-append_seam results r0 [] r in
      let y : get_or (seats ++ s0 ∷ []) k s ≡ s0 = ap (λ j. get_or (seats ++ s0 ∷ []) j s) (e ∙ sym b) ∙ get_or-append_seam seats s0 [] s in
      ap (λ j. slot_at row j) e ∙ here ∙ (λ i. Ended (sym x i) (sym y i)))
      (λ n.
      let less : k < h = omega arith in
      let x : get_or (results ++ r0 ∷ []) k r ≡ get_or results k r = get_or_append_left results (r0 ∷ []) r k (omega arith) in
      let y : get_or (seats ++ s0 ∷ []) k s ≡ get_or seats k s = get_or_append_left seats (s0 ∷ []) s k (omega arith) in
      was k r s less ∙ (λ i. Ended (sym x i) (sym y i)))

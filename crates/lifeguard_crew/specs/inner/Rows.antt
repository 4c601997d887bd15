-- What a driver of several threads knows of the rows that its threads have.
use Rattle.std.specs.Prelude.{◌≡◌, ◌⊎◌, ℕ, List, [], ◌∷◌, length}
use Rattle.order_core.specs.Course.{Planned}
use Rattle.guard_table.specs.declared.seats.Monitor.{Monitor}
use Rattle.turn_worker.specs.Workers.{WorkerView}
use Rattle.lifeguard_crew.specs.declared.slot.Slot.{Slot}
use Rattle.lifeguard_crew.specs.inner.Slots.{slot_at, IsManned, AreKept, Fits, MayTurn}

module _ {X : Type 0} where
  abbrev pub Each : (X → Type 0) → List X → Type 0
  Each F [] = Unit {0}
  Each F (x ∷ xs) = F x × Each F xs

  abbrev pub SomeOf : (X → Type 0) → List X → Type 0
  SomeOf F [] = ⊥
  SomeOf F (x ∷ xs) = F x ⊎ SomeOf F xs

-- a thread took a row of n slots, and speaks of this monitor
abbrev pub HasRow : {P W : Type 0} → Monitor P → ℕ → Monitor P → List (Slot W) → Type 0
HasRow m n other row = (other ≡ m) × (length row ≡ n)

module _ {W : Type 0} (May : Slot W → Type 0) (Fit : WorkerView → Slot W → Type 0) where
  -- the row that was taken, or what came of it
  abbrev pub IsReturn : List (Slot W) → List (Slot W) → Type 0
  IsReturn took gave = (length gave ≡ length took) × AreKept May Fit took gave

  -- what some rows have, by hart, others have after them
  pub record Pass (olds news : List (List (Slot W))) : Type 0 where
    pub may : Each (λ row. (h : ℕ) → May (slot_at row h)) olds → Each (λ row. (h : ℕ) → May (slot_at row h)) news
    pub fits : (h : ℕ) (v : WorkerView) → Each (λ row. Fit v (slot_at row h)) olds
        → Each (λ row. Fit v (slot_at row h)) news
    pub manned : (h : ℕ) → SomeOf (λ row. IsManned (slot_at row h)) olds
        → SomeOf (λ row. IsManned (slot_at row h)) news

module _ {P W : Type 0} (planned : P → Planned) (view : W → WorkerView) (m : Monitor P) where
  -- what a thread gives back for the row that it took
  abbrev pub IsBack : List (Slot W) → List (Slot W) → Type 0
  IsBack took gave = IsReturn (MayTurn planned view m) (Fits planned view m) took gave

  abbrev pub Passes : List (List (Slot W)) → List (List (Slot W)) → Type 0
  Passes olds news = Pass (MayTurn planned view m) (Fits planned view m) olds news

-- The steps of harts, and whole runs of them.
use Rattle.std.specs.Prelude.{◌≡◌, ◌≢◌, ℕ, zero, suc, ◌+◌, ◌<◌, ◌≤◌, ◌==◌, ◌⊎◌, true, List, [], ◌∷◌, if◌then◌else◌}
use Rattle.pl_base.specs.declared.layout.TheConstants.{LANES}
use Rattle.order_core.specs.declared.course.Course.{Course}
use Rattle.order_core.specs.declared.course.Operation.{Operation}
use Rattle.order_core.specs.declared.steps.Act.{Act}
use Rattle.order_core.specs.declared.steps.Act.TheVariants.{See, Advertise, Perform}
use Rattle.order_core.specs.declared.steps.CoreStep.{CoreStep}
use Rattle.order_core.specs.Lanes.{lane, covers, Meets, Lands}
use Rattle.order_core.specs.Course.{At, length_of, writes_of}
use Rattle.order_core.specs.Lawful.{IsName}
use Rattle.order_core.specs.Core.{Core, opening_core, IsPassed, IsOpen, IsNextWrite, after_see, after_advertise, after_write}

module _ (c : Course) where
  -- hart h may perform the operation at p
  abbrev pub MayPerform : ℕ → Core → ℕ → Operation → Type 0
  MayPerform h k p a = IsNextWrite c k h p a ⊎ IsOpen c k h p a

  -- what a hart may do: see another hart of the run, advertise what is neither below its progress word nor above its
  -- cursor, perform the next write, or a read that is neither advertised nor overtaken by the hart's own writes
  abbrev pub IsAllowed : Core → ℕ → Act → Type 0
  IsAllowed k h (See of) = (h < c.log.harts) × (of < c.log.harts) × (of ≢ h)
  IsAllowed k h (Advertise upto) = (h < c.log.harts) × (k.progress h ≤ upto)
      × IsPassed c (k.written h) (k.seen h) h upto
  IsAllowed k h (Perform number op) = (p : ℕ) × (a : Operation) × IsName h number op a × MayPerform h k p a

  -- k' is the state after hart h performs the operation at p: a write puts its value into its lanes, a read changes
  -- nothing
  abbrev pub Performs : ℕ → Core → ℕ → Operation → Core → Type 0
  Performs h k p a k' = (IsNextWrite c k h p a × (n : ℕ) × Lands a.what (k.word a.what.word) n
      × (k' ≡ after_write k a n))
      ⊎ (IsOpen c k h p a × (k' ≡ k))

  -- hart h may do this at k, and k' is the state after it
  abbrev pub Makes : Core → ℕ → Act → Core → Type 0
  Makes k h (See of) k' = IsAllowed k h (See of) × (k' ≡ after_see k h of)
  Makes k h (Advertise upto) k' = IsAllowed k h (Advertise upto) × (k' ≡ after_advertise k h upto)
  Makes k h (Perform number op) k' = (p : ℕ) × (a : Operation) × IsName h number op a × Performs h k p a k'

  -- each step is allowed where it is made
  abbrev pub Runs : Core → List CoreStep → Core → Type 0
  Runs k [] k' = k ≡ k'
  Runs k (s ∷ rest) k' = (m : Core) × Makes k s.hart s.act m × Runs m rest k'

  -- the state after these steps from the opening state
  abbrev pub IsReached : List CoreStep → Core → Type 0
  IsReached steps k = Runs (opening_core c) steps k

  -- each step is allowed where it is made, and changes the state
  abbrev pub MovesAlong : Core → List CoreStep → Core → Type 0
  MovesAlong k [] k' = k ≡ k'
  MovesAlong k (s ∷ rest) k' = (m : Core) × Makes k s.hart s.act m × (m ≢ k) × MovesAlong m rest k'

  -- a step of hart h neither advertises the record of its read a, nor performs a write that clashes with it
  abbrev pub LeavesRead : ℕ → Operation → Act → Type 0
  LeavesRead h a (See of) = Unit {0}
  LeavesRead h a (Advertise upto) = upto < a.number
  LeavesRead h a (Perform number op) = (q : ℕ) (b : Operation) → At c q b → IsName h number op b
      → b.what.write ≡ true → Meets b.what a.what → ⊥

  -- the read stays open, and finds the same in its lanes
  abbrev pub StaysOpen : ℕ → ℕ → Operation → Core → Core → Type 0
  StaysOpen h p a k k' = IsOpen c k' h p a
      × ((j : ℕ) → j < LANES → covers a.what.lanes j ≡ true
      → lane j (k'.word a.what.word) ≡ lane j (k.word a.what.word))

-- f 0 + .. + f (n - 1)
abbrev pub total : ℕ → (ℕ → ℕ) → ℕ
total zero f = 0
total (suc n) f = f n + total n f

-- the same without f h
abbrev pub total_but : ℕ → ℕ → (ℕ → ℕ) → ℕ
total_but h n f = total n (λ u. if u == h then 0 else f u)

-- all writes, for each hart the records of each other, and all records
abbrev pub most_moves : Course → ℕ
most_moves c =
    let harts = c.log.harts in
    total harts (writes_of c) + total harts (λ h. total_but h harts (length_of c)) + total harts (length_of c)

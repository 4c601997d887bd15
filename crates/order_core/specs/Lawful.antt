-- What a plan keeps.
use Rattle.std.specs.Prelude.{◌≡◌, ◌≢◌, ℕ, ◌^◌, ◌<◌, ◌≤◌, ◌⊎◌, true, false, List, length, slice_index}
use Rattle.pl_base.specs.declared.layout.TheConstants.{LANES}
use Rattle.order_core.specs.declared.course.TheConstants.{FIRST_WORD}
use Rattle.pl_event.specs.Graph.{Path}
use Rattle.pl_event.specs.Edges.{Into}
use Rattle.pl_event.specs.Conflicts.{IsOrdered}
use Rattle.pl_event.specs.Runs.{IsRunLog}
use Rattle.order_core.specs.declared.course.Course.{Course}
use Rattle.order_core.specs.declared.course.Op.{Op}
use Rattle.order_core.specs.declared.course.Operation.{Operation}
use Rattle.order_core.specs.Lanes.{lane, covers}
use Rattle.order_core.specs.Course.{At, Clash, Planned, IsListed, course_of, lane_before, length_of}

-- operation i of record n of hart h
abbrev pub IsName : ℕ → ℕ → ℕ → Operation → Type 0
IsName h n i a = (a.hart ≡ h) × (a.number ≡ n) × (a.op ≡ i)

-- the operation is on a word from 9 on of so many, and names one to four lanes
pub record IsSoundOp (words : ℕ) (o : Op) : Type 0 where
  pub low : FIRST_WORD ≤ o.word
  pub high : o.word < words
  pub lanes : (1 ≤ o.lanes) × (o.lanes ≤ 15)

-- the operation is one of the first 2^32 - 1 of a record of the run
pub record IsInside (c : Course) (a : Operation) : Type 0 where
  pub hart : a.hart < c.log.harts
  pub from_one : 1 ≤ a.number
  pub number : a.number ≤ length_of c a.hart
  pub op : a.op < 4294967295
  pub what : IsSoundOp (length c.opening) a.what

-- the operations of a hart are in the order of its records, and of a record in the order of their numbers, with no gap
pub record InOrder (c : Course) : Type 0 where
  pub order : (p q : ℕ) (a b : Operation) → At c p a → At c q b → p < q → a.hart ≡ b.hart
      → (a.number < b.number) ⊎ ((a.number ≡ b.number) × (a.op < b.op))
  pub dense : (p : ℕ) (a : Operation) (i : ℕ) → At c p a → i < a.op
      → (q : ℕ) × (b : Operation) × At c q b × IsName a.hart a.number i b

-- each read's value is, in its lanes, what the operations before it leave there
abbrev pub HasValues : Course → Type 0
HasValues c = (p : ℕ) (a : Operation) → At c p a → a.what.write ≡ false → (j : ℕ) → j < LANES
    → covers a.what.lanes j ≡ true → lane j a.what.value ≡ lane_before c p a.what.word j

-- a path leads from the earlier to the later of two clashing operations of different harts
abbrev pub HasPaths : Course → Type 0
HasPaths c = (p q : ℕ) (a b : Operation) → At c p a → At c q b → p < q → a.hart ≢ b.hart → Clash a b
    → Path (Into c.log.lines) a.hart a.number b.hart b.number

-- the number of words is from 9 to 2^32 - 1, and words 0 to 8 are 0
pub record IsTable (opening : List ℕ) : Type 0 where
  pub size : (FIRST_WORD ≤ length opening) × (length opening < 2 ^ 32)
  pub zeros : (w : ℕ) → w < FIRST_WORD → slice_index opening w ≡ 0

-- the laws on the log, on the table, on the operations, on values and on paths
pub record IsLawful (c : Course) : Type 0 where
  pub log : IsRunLog c.log
  pub few : length c.log.lines < 4294967295
  pub ordered : IsOrdered c.log
  pub table : IsTable c.opening
  pub inside : (p : ℕ) (a : Operation) → At c p a → IsInside c a
  pub in_order : InOrder c
  pub values : HasValues c
  pub paths : HasPaths c

-- the laws of a plan that are left to be shown: its operations are always of records of the run, and in order
pub record IsLawfulPlan (plan : Planned) : Type 0 where
  pub log : IsRunLog plan.log
  pub few : length plan.log.lines < 4294967295
  pub ordered : IsOrdered plan.log
  pub table : IsTable plan.opening
  pub short : (h m i : ℕ) (o : Op) → IsListed plan h m i o → i < 4294967295
  pub sound : (h m i : ℕ) (o : Op) → IsListed plan h m i o → IsSoundOp (length plan.opening) o
  pub values : HasValues (course_of plan)
  pub paths : HasPaths (course_of plan)

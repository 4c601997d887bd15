-- The operations of a run in executed order, and what they leave in the words.
use Rattle.std.specs.Prelude.{◌≡◌, ℕ, zero, suc, ◌+◌, ◌≤◌, Bool, true, ◌&&◌, nat_lt, ◌==◌, ◌⊎◌, List, [], ◌∷◌, ◌++◌, length, Some, slice_get, slice_index, if◌then◌else◌}
use mathlib.Core.Option.{some}
use lib.ListN.{get_elem?}
use Rattle.pl_event.specs.declared.log.Line.{Line}
use Rattle.pl_event.specs.declared.log.Log.{Log}
use Rattle.pl_event.specs.Numbers.{hart_of}
use Rattle.pl_event.specs.Records.{records_before}
use Rattle.order_core.specs.declared.course.Course.{Course}
use Rattle.order_core.specs.declared.course.Op.{Op}
use Rattle.order_core.specs.declared.course.Operation.{Operation}
use Rattle.order_core.specs.Lanes.{lane, covers, Meets}

-- what a plan says: the log of a run, the words of the table at its start, and the operations of each record
pub record Planned : Type 0 where
  pub log : Log
  pub opening : List ℕ
  pub operations : ℕ → ℕ → List Op

-- operation i of record m of hart h
abbrev pub operation_of : ℕ → ℕ → ℕ → Op → Operation
operation_of h m i o = record { hart = h; number = m; op = i; what = o }

-- the operations of record m of hart h, numbered from i
abbrev pub tagged : ℕ → ℕ → ℕ → List Op → List Operation
tagged h m i [] = []
tagged h m i (o ∷ os) = operation_of h m i o ∷ tagged h m (suc i) os

-- those of the records from position i on
abbrev pub operations_from : (ℕ → ℕ → List Op) → List Line → ℕ → List Line → List Operation
operations_from ops lines i [] = []
operations_from ops lines i (line ∷ rest) =
    let h = hart_of line.what in
    let m = records_before h lines i + 1 in
    tagged h m 0 (ops h m) ++ operations_from ops lines (suc i) rest

-- the operations of a plan laid out in executed order
abbrev pub course_of : Planned → Course
course_of plan = record {
  log = plan.log;
  operations = operations_from plan.operations plan.log.lines 0 plan.log.lines;
  opening = plan.opening;
}

-- the course of a plan, by what such a plan says
abbrev pub course : {P : Type 0} → (P → Planned) → P → Course
course planned plan = course_of (planned plan)

-- the operation at position p of the executed order
abbrev pub At : Course → ℕ → Operation → Type 0
At c p a = get_elem? c.operations p ≡ some a

-- both touch a lane of one word, and one is a write
abbrev pub Clash : Operation → Operation → Type 0
Clash a b = Meets a.what b.what × ((a.what.write ≡ true) ⊎ (b.what.write ≡ true))

abbrev pub is_write_of : ℕ → Operation → Bool
is_write_of h a = a.what.write && (a.hart == h)

-- how many of the first p operations are writes of hart h
abbrev pub rank : ℕ → List Operation → ℕ → ℕ
rank h [] p = 0
rank h (a ∷ rest) zero = 0
rank h (a ∷ rest) (suc p) = (if is_write_of h a then 1 else 0) + rank h rest p

-- how many writes a hart has
abbrev pub writes_of : Course → ℕ → ℕ
writes_of c h = rank h c.operations (length c.operations)

-- what the chosen writes leave in lane j of word w, which held v. The list begins at position k
abbrev pub left_in : (ℕ → Operation → Bool) → ℕ → List Operation → ℕ → ℕ → ℕ → ℕ
left_in chosen k [] w j v = v
left_in chosen k (a ∷ rest) w j v =
    let is = chosen k a && (a.what.write && ((a.what.word == w) && covers a.what.lanes j)) in
    left_in chosen (suc k) rest w j (if is then lane j a.what.value else v)

-- what the chosen writes of the run leave in lane j of word w
abbrev pub left_by : Course → (ℕ → Operation → Bool) → ℕ → ℕ → ℕ
left_by c chosen w j = left_in chosen 0 c.operations w j (lane j (slice_index c.opening w))

-- all operations before position p
abbrev pub before : ℕ → ℕ → Operation → Bool
before p q a = nat_lt q p

-- lane j of word w before the operation at position p of the sequential run
abbrev pub lane_before : Course → ℕ → ℕ → ℕ → ℕ
lane_before c p w j = left_by c (before p) w j

-- lane j of word w at the end of the sequential run
abbrev pub last_lane : Course → ℕ → ℕ → ℕ
last_lane c w j = left_by c (λ p a. true) w j

-- how many records a hart has
abbrev pub length_of : Course → ℕ → ℕ
length_of c h = records_before h c.log.lines (length c.log.lines)

-- the plan has this operation i of record m of hart h
pub record IsListed (plan : Planned) (h m i : ℕ) (o : Op) : Type 0 where
  pub from_one : 1 ≤ m
  pub number : m ≤ length_of (course_of plan) h
  pub op : slice_get (plan.operations h m) i ≡ Some o

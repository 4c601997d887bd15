-- The operations of a plan that is given by lists.
use Rattle.std.specs.Prelude.{◌≡◌, ℕ, zero, suc, ◌+◌, ◌-◌, ◌<◌, List, [], ◌∷◌, Vec, Option, Some, None, length, slice_get}
use Rattle.std.specs.declared.alloc.Global.{Global}
use Rattle.pl_event.specs.declared.log.Log.{Log}
use Rattle.order_core.specs.declared.course.Op.{Op}
use Rattle.order_core.specs.declared.record_plan.RecordPlan.{RecordPlan}
use Rattle.pl_event.specs.Needs.{needs_of}
use Rattle.pl_event.specs.Records.{records_before}
use Rattle.order_core.specs.Course.{Planned}

-- the records of a hart
abbrev pub stream_of : List (Vec RecordPlan Global) → ℕ → List RecordPlan
stream_of [] h = []
stream_of (records ∷ streams) zero = records.items
stream_of (records ∷ streams) (suc h) = stream_of streams h

abbrev pub ops_of : Option RecordPlan → List Op
ops_of None = []
ops_of (Some r) = r.operations.items

-- the operations of record m of a hart, counted from 1
abbrev pub ops_in : List (Vec RecordPlan Global) → ℕ → ℕ → List Op
ops_in streams h m = ops_of (slice_get (stream_of streams h) (m - 1))

-- the plan of these lists
abbrev pub listed : Log → List ℕ → List (Vec RecordPlan Global) → Planned
listed log opening streams = record { log = log; opening = opening; operations = ops_in streams }

-- each hart of the log has as many records in its list as in the log
abbrev pub HasRecords : Log → List (Vec RecordPlan Global) → Type 0
HasRecords log streams = (h : ℕ) → h < log.harts
    → length (stream_of streams h) ≡ records_before h log.lines (length log.lines)

-- the needs of each record are those of the log
abbrev pub HasNeeds : Log → List (Vec RecordPlan Global) → Type 0
HasNeeds log streams = (h m : ℕ) (r : RecordPlan) → h < log.harts → slice_get (stream_of streams h) m ≡ Some r
    → r.needs ≡ needs_of log.lines h (m + 1)

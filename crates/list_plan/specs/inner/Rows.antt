-- The lists of the records of harts, as they grow line by line.
use Rattle.std.specs.Prelude.{◌≡◌, ℕ, ◌+◌, ◌<◌, List, length, Vec, Some, slice_get}
use Rattle.std.specs.declared.alloc.Global.{Global}
use Rattle.pl_event.specs.declared.log.Line.{Line}
use Rattle.pl_event.specs.Needs.{needs_of}
use Rattle.pl_event.specs.Records.{records_before}
use Rattle.order_core.specs.declared.course.Op.{Op}
use Rattle.order_core.specs.declared.record_plan.RecordPlan.{RecordPlan}
use Rattle.order_core.specs.Lists.{stream_of}

-- the record has these operations, and the needs of record m of hart h
pub record IsRow (lines : List Line) (ops : ℕ → ℕ → List Op) (h m : ℕ) (r : RecordPlan) : Type 0 where
  pub operations : r.operations.items ≡ ops h m
  pub needs : r.needs ≡ needs_of lines h m

-- each hart has its records among the first i lines
pub record HasRows (lines : List Line) (ops : ℕ → ℕ → List Op) (i : ℕ)
    (streams : List (Vec RecordPlan Global)) : Type 0 where
  pub count : (h : ℕ) → h < length streams → length (stream_of streams h) ≡ records_before h lines i
  pub rows : (h m : ℕ) (r : RecordPlan) → h < length streams → slice_get (stream_of streams h) m ≡ Some r
      → IsRow lines ops h (m + 1) r

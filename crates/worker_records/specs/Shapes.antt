-- The operations that are next of a record with many.
use Rattle.std.specs.Prelude.{◌≡◌, ℕ, ◌+◌, ◌++◌, List, count_by}
use Rattle.pl_event.specs.declared.event.Kind.{Kind}
use Rattle.order_core.specs.Course.{Planned}
use Rattle.order_core.specs.Shapes.{Shape}
use Rattle.guard_table.specs.declared.view.View.{View}
use Rattle.worker_laws.specs.Runs.{Run}
use Rattle.worker_records.specs.Alerts.{IsAmid}

-- a record of a run, of this kind, some of whose operations left these words, and the last of its operations
pub record Midst : Type 0 where
  pub run : Run
  pub kind : Kind
  pub words : ℕ → ℕ
  pub rest : List Shape

-- the next operations of the hart's record `number`, from number `op` on
pub record IsDue (plan : Planned) (v : View) (number op : ℕ) (due : List Shape) (m : Midst) : Type 0 where
  pub plan_is : m.run.plan ≡ plan
  pub amid : IsAmid m.run v number op m.kind m.words (due ++ m.rest)

-- a hart's view after these operations
abbrev pub made : List Shape → View → View
made ss v = record v { written = v.written + count_by (λ s. s.write) ss }

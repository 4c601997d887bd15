-- What a hart does at the table, by the names of its operations.
use Rattle.std.specs.Prelude.{◌≡◌, ℕ, Bool}
use Rattle.order_core.specs.declared.course.Op.{Op}
use Rattle.order_core.specs.Core.{IsNextWrite}
use Rattle.order_core.specs.Course.{Planned, course_of, operation_of}
use Rattle.guard_table.specs.declared.put.Put.{Put}
use Rattle.guard_table.specs.declared.view.View.{View}
use Rattle.guard_table.specs.Puts.{IsPutOf}
use Rattle.guard_table.specs.Views.{known_core}
use Rattle.worker_laws.specs.Runs.{Run}
use Rattle.worker_laws.specs.Reads.{MayReadNow}

-- operation `op` of the hart's record `number` is this read of the word, for a check or not, and may be made now
pub record IsReadOf (plan : Planned) (v : View) (number op word : ℕ) (check : Bool) (p : Run) (o : Op) : Type 0 where
  pub plan_is : p.plan ≡ plan
  pub able : MayReadNow p v.hart v number op o
  pub word_is : o.word ≡ word
  pub check_is : o.check ≡ check

-- operation `op` of the hart's record `number` is this write of the word, the hart's next
-- write, and this is what it puts
pub record IsWriteOf (plan : Planned) (v : View) (number op word : ℕ) (put : Put) (o : Op) : Type 0 where
  pub at : ℕ
  pub word_is : o.word ≡ word
  pub next : IsNextWrite (course_of plan) (known_core v) v.hart at (operation_of v.hart number op o)
  pub puts : IsPutOf (course_of plan) at (operation_of v.hart number op o) put

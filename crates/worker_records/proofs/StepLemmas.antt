-- Operations by their names, where they may be made now.
use Rattle.std.proofs.Common.{◌≡◌, ℕ, Bool, refl, subst}
use Rattle.order_core.specs.declared.course.Op.{Op}
use Rattle.order_core.specs.Course.{Planned, course_of, operation_of}
use Rattle.order_core.proofs.Named.{op_at}
use Rattle.guard_table.specs.declared.put.Put.{Put}
use Rattle.guard_table.specs.declared.view.View.{View}
use Rattle.guard_table.specs.Seats.{IsReadNow, IsWriteNow}
use Rattle.worker_laws.specs.Runs.{Run}
use Rattle.worker_records.specs.Steps.{IsReadOf, IsWriteOf}

-- a read that may be made now is in the course
pub read_now : (plan : Planned) (v : View) (number op word : ℕ) (check : Bool) (p : Run) (o : Op) → IsReadOf plan v number op word check p o
    → (q : ℕ) × IsReadNow (course_of plan) v number op word check q (operation_of v.hart number op o)
read_now plan v number op word check p o is =
    let l = is.able.listed in
    let t = op_at p.plan v.hart number op o l.from_one l.number l.op in
    subst (λ (z : Planned). (q : ℕ) × IsReadNow (course_of z) v number op word check q (operation_of v.hart number op o)) is.plan_is
    (t.0, record { name = (refl, refl, refl); on = is.word_is; kind = is.check_is; may = is.able.able t.0 t.1 })

pub write_now : (plan : Planned) (v : View) (number op word : ℕ) (put : Put) (o : Op) → (is : IsWriteOf plan v number op word put o)
    → IsWriteNow (course_of plan) v number op word put is.at (operation_of v.hart number op o)
write_now plan v number op word put o is = record { name = (refl, refl, refl); on = is.word_is; next = is.next; puts = is.puts }

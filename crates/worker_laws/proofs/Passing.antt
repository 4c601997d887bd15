-- The operations of a record with many: what comes after those that were made.
use Rattle.std.proofs.Common.{◌≡◌, ℕ, suc, ◌+◌, ◌≤◌, true, false, ◌++◌, List, [], ◌∷◌, length, Some, None, refl, sym, ap, ◌∙◌, subst, arith}
use Rattle.std.specs.Prelude.{slice_get}
use Rattle.pl_event.specs.declared.event.Kind.{Kind}
use Rattle.order_core.specs.declared.course.Op.{Op}
use Rattle.order_core.specs.Core.{IsNextWrite}
use Rattle.order_core.specs.Course.{IsListed, course_of, operation_of}
use Rattle.order_core.specs.Shapes.{Shape, after_shape, after_shapes, fill, filled_op}
use Rattle.order_core.specs.Turns.{HasComeTo}
use Rattle.order_core.proofs.Known.{Known}
use Rattle.guard_table.specs.declared.view.View.{View}
use Rattle.guard_table.specs.Views.{known_core, wrote}
use Rattle.shadow_layout.specs.Operations.{shapes}
use Rattle.worker_laws.specs.Runs.{IsKind, IsRun, Run, before, size}
use Rattle.worker_laws.specs.Reads.{MayReadNow}
use Rattle.worker_laws.proofs.Keeping.{operations_are}
use Rattle.worker_laws.proofs.Opening.{able_now, come_read, come_wrote, next_write}

-- the operation after those that were made has what they left
pub fill_at : (w : ℕ → ℕ) (done : List Shape) (s : Shape) (rest : List Shape) → slice_get (fill w (done ++ s ∷ rest)) (length done) ≡ Some (filled_op (after_shapes w done s.word) s)
fill_at w [] s rest = refl
fill_at w (x ∷ done) s rest = fill_at (after_shape w x) done s rest

fill_end : (w : ℕ → ℕ) (done : List Shape) → slice_get (fill w done) (length done) ≡ None
fill_end w [] = refl
fill_end w (x ∷ done) = fill_end (after_shape w x) done

length_more : (done : List Shape) (s : Shape) → length (done ++ s ∷ []) ≡ length done + 1
length_more [] s = omega arith
length_more (x ∷ done) s = ap suc (length_more done s) ∙ omega arith

module _ (p : Run) (run : IsRun p) (k : Known (course_of p.plan)) (h m : ℕ) (kd : Kind) (from : 1 ≤ m) (low : m ≤ size p h) (is : IsKind p h m kd) where
  abbrev all : List Shape
  all = shapes p.rules p.plan.log.block h (before p h m).state.masks (before p h m).words kd

  -- all are made
  pub no_more : slice_get (p.plan.operations h m) (length all) ≡ None
  no_more = ap (λ (z : List Op). slice_get z (length all)) (operations_are p run h m kd from low is) ∙ fill_end (before p h m).words all

  module _ (done : List Shape) (s : Shape) (rest : List Shape) (split : all ≡ done ++ s ∷ rest) (v : View) (come : HasComeTo (course_of p.plan) (known_core v) h m (length done)) where
    abbrev next_op : Op
    next_op = filled_op (after_shapes (before p h m).words done s.word) s

    listed : IsListed p.plan h m (length done) next_op
    listed = record {
      from_one = from;
      number = low;
      op = ap (λ (z : List Op). slice_get z (length done)) (operations_are p run h m kd from low is ∙ ap (fill (before p h m).words) split) ∙ fill_at (before p h m).words done s rest;
    }

    pub may_read : s.write ≡ false → MayReadNow p h v m (length done) next_op
    may_read r = able_now p k h v m (length done) next_op listed come r

    pub may_write : s.write ≡ true → (q : ℕ) × IsNextWrite (course_of p.plan) (known_core v) h q (operation_of h m (length done) next_op)
    may_write w = next_write p k h v m (length done) next_op listed come w

    pub after_read : s.write ≡ false → HasComeTo (course_of p.plan) (known_core v) h m (length (done ++ s ∷ []))
    after_read r = subst (HasComeTo (course_of p.plan) (known_core v) h m) (sym (length_more done s)) (come_read p k h v m (length done) next_op listed come r)

    pub after_write : s.write ≡ true → HasComeTo (course_of p.plan) (known_core (wrote v)) h m (length (done ++ s ∷ []))
    after_write w = subst (HasComeTo (course_of p.plan) (known_core (wrote v)) h m) (sym (length_more done s)) (come_wrote p k h v m (length done) next_op listed come w)

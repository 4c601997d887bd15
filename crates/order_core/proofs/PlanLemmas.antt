-- A plan that has the laws that are left to be shown is lawful.
use Rattle.std.proofs.Common.{◌≡◌, ℕ, suc, ◌+◌, ◌<◌, ◌≤◌, List, [], ◌∷◌, length, refl, sym, ap, ◌∙◌, subst, ⊎_elim, arith}
use mathlib.Core.Option.{some, some-ne-none}
use lib.ListN.{get_elem?}
use Rattle.pl_event.specs.declared.log.Line.{Line}
use Rattle.pl_event.specs.Numbers.{hart_of}
use Rattle.pl_event.specs.Records.{records_before}
use Rattle.pl_event.proofs.Places as places
use Rattle.order_core.specs.declared.course.Op.{Op}
use Rattle.order_core.specs.declared.course.Operation.{Operation}
use Rattle.order_core.specs.Course.{Planned, IsListed, At, operations_from, course_of, length_of, tagged}
use Rattle.order_core.specs.Lawful.{IsInside, IsLawful, IsLawfulPlan, IsSoundOp}
use Rattle.order_core.proofs.Flatten.{at_append, tag_of, course_in_order}
use Rattle.order_core.proofs.Named.{op_of}

-- the line whose record has the operation
record IsFrom (lines : List Line) (a : Operation) : Type 0 where
  position : ℕ
  line : Line
  at : get_elem? lines position ≡ some line
  hart : a.hart ≡ hart_of line.what
  number : a.number ≡ records_before (hart_of line.what) lines position + 1

module _ (ops : ℕ → ℕ → List Op) (g : List Line) where
  from_line : (i : ℕ) (rest : List Line) → ((k : ℕ) → get_elem? rest k ≡ get_elem? g (i + k)) → (p : ℕ) (a : Operation) → get_elem? (operations_from ops g i rest) p ≡ some a → IsFrom g a
  from_line i [] same p a e = absurd (some-ne-none a (sym e))
  from_line i (x ∷ rest) same p a e =
      let h : ℕ = hart_of x.what in
      let m : ℕ = records_before h g i + 1 in
      let head : List Operation = tagged h m 0 (ops h m) in
      let tail : List Operation = operations_from ops g (suc i) rest in
      ⊎_elim
      (λ (l : get_elem? head p ≡ some a). let t = tag_of h m 0 (ops h m) p a l in
      record { position = i; line = x; at = ap (get_elem? g) (omega arith) ∙ sym (same 0); hart = t.0; number = t.1 })
      (λ (r : (q : ℕ) × (p ≡ length head + q) × (get_elem? tail q ≡ some a)). from_line (suc i) rest (λ k. same (suc k) ∙ ap (get_elem? g) (omega arith)) r.0 a r.2)
      (at_append head tail p a e)

module _ (plan : Planned) (parts : IsLawfulPlan plan) where
  inside : (p : ℕ) (a : Operation) → At (course_of plan) p a → IsInside (course_of plan) a
  inside p a at =
      let t = op_of plan p a at in
      let f = from_line plan.operations plan.log.lines 0 plan.log.lines (λ k. ap (get_elem? plan.log.lines) (omega arith)) p a at in
      let h : ℕ = hart_of f.line.what in
      let low : h < plan.log.harts = parts.log.flow.within f.position h (records_before h plan.log.lines f.position + 1) f.line (record { at = f.at; hart = refl; number = refl }) in
      let long : f.position < length plan.log.lines = places.inside plan.log.lines f.position f.line f.at in
      let own : records_before h plan.log.lines (f.position + 1) ≡ records_before h plan.log.lines f.position + 1 = places.before_own plan.log.lines f.position h f.line f.at refl in
      let up : records_before h plan.log.lines (f.position + 1) ≤ length_of (course_of plan) h = places.before_up plan.log.lines (f.position + 1) (length plan.log.lines) h (omega arith) in
      let number : a.number ≡ records_before h plan.log.lines f.position + 1 = f.number in
      let listed : IsListed plan a.hart a.number a.op t.0 = record {
        from_one = omega arith;
        number = subst (λ (z : ℕ). a.number ≤ length_of (course_of plan) z) (sym f.hart) (omega arith);
        op = t.1;
      } in
      record {
        hart = subst (λ (z : ℕ). z < plan.log.harts) (sym f.hart) low;
        from_one = listed.from_one;
        number = listed.number;
        op = parts.short a.hart a.number a.op t.0 listed;
        what = subst (λ (z : Operation). IsSoundOp (length plan.opening) z.what) (sym t.2) (parts.sound a.hart a.number a.op t.0 listed);
      }

  pub plan_lawful : IsLawful (course_of plan)
  plan_lawful = record {
    log = parts.log;
    few = parts.few;
    ordered = parts.ordered;
    table = parts.table;
    inside = inside;
    in_order = course_in_order plan;
    values = parts.values;
    paths = parts.paths;
  }

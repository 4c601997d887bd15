-- The operation of a record and a number, in the record's list and in the course.
use Rattle.std.proofs.Common.{◌≡◌, ℕ, zero, suc, ◌+◌, ◌≤◌, List, [], ◌∷◌, ◌++◌, length, slice_get, Option, Some, None, refl, sym, ap, ◌∙◌, subst, ⊎_elim, arith}
use mathlib.Core.Option.{some, some-injective, some-ne-none}
use lib.ListN.{get_elem?}
use Rattle.pl_event.specs.declared.log.Line.{Line}
use Rattle.pl_event.specs.Numbers.{hart_of}
use Rattle.pl_event.specs.Records.{records_before, IsRecord}
use Rattle.pl_event.proofs.Places.{record_at}
use Rattle.order_core.specs.declared.course.Op.{Op}
use Rattle.order_core.specs.declared.course.Operation.{Operation}
use Rattle.order_core.specs.Course.{Planned, operation_of, tagged, operations_from, course_of, At, length_of}
use Rattle.order_core.specs.Lawful.{IsName}
use Rattle.order_core.proofs.Flatten.{at_append, at_left, at_right}

abbrev pub some_op : Op → Option Op
some_op o = Some o

tag_is : (h m i : ℕ) (os : List Op) (p j : ℕ) (a : Operation) → get_elem? (tagged h m i os) p ≡ some a → j ≡ i + p → (o : Op) × (slice_get os p ≡ Some o) × (a ≡ operation_of h m j o)
tag_is h m i [] p j a e s = absurd (some-ne-none a (sym e))
tag_is h m i (o ∷ os) zero j a e s = (o, refl, sym (some-injective (operation_of h m i o) a e) ∙ (let t : i ≡ j = omega arith in ap (λ (z : ℕ). operation_of h m z o) t))
tag_is h m i (o ∷ os) (suc p) j a e s = tag_is h m (suc i) os p j a e (omega arith)

tag_at : (h m i : ℕ) (os : List Op) (p j : ℕ) (o : Op) → slice_get os p ≡ Some o → j ≡ i + p → get_elem? (tagged h m i os) p ≡ some (operation_of h m j o)
tag_at h m i [] p j o e s = absurd (let t : None ≡ some_op o = e in cc)
tag_at h m i (x ∷ os) zero j o e s = let same : x ≡ o = cc in let t : i ≡ j = omega arith in λ d. some (operation_of h m (t d) (same d))
tag_at h m i (x ∷ os) (suc p) j o e s = tag_at h m (suc i) os p j o e (omega arith)

module _ (ops : ℕ → ℕ → List Op) (g : List Line) where
  abbrev head : ℕ → Line → List Operation
  head i line = tagged (hart_of line.what) (records_before (hart_of line.what) g i + 1) 0 (ops (hart_of line.what) (records_before (hart_of line.what) g i + 1))

  abbrev tail : ℕ → List Line → List Operation
  tail i rest = operations_from ops g (suc i) rest

  -- an operation of the list is in the list of its record
  is_one : (i : ℕ) (rest : List Line) (p : ℕ) (a : Operation) → get_elem? (operations_from ops g i rest) p ≡ some a → (o : Op) × (slice_get (ops a.hart a.number) a.op ≡ Some o) × (a ≡ operation_of a.hart a.number a.op o)
  is_one i [] p a e = absurd (some-ne-none a (sym e))
  is_one i (x ∷ rest) p a e = ⊎_elim
      (λ (l : get_elem? (head i x) p ≡ some a).
      let h : ℕ = hart_of x.what in
      let m : ℕ = records_before h g i + 1 in
      let t = tag_is h m 0 (ops h m) p p a l (omega arith) in
      let same = t.2 in
      (t.0, subst (λ (z : Operation). slice_get (ops z.hart z.number) z.op ≡ Some t.0) (sym same) t.1, subst (λ (z : Operation). z ≡ operation_of z.hart z.number z.op t.0) (sym same) refl))
      (λ (r : (q : ℕ) × (p ≡ length (head i x) + q) × (get_elem? (tail i rest) q ≡ some a)). is_one (suc i) rest r.0 a r.2)
      (at_append (head i x) (tail i rest) p a e)

  -- an operation of a record's list is in the list
  is_listed : (i : ℕ) (rest : List Line) (k j : ℕ) (x : Line) → get_elem? rest k ≡ some x → j ≡ i + k → (y : ℕ) (o : Op) → slice_get (ops (hart_of x.what) (records_before (hart_of x.what) g j + 1)) y ≡ Some o
      → (p : ℕ) × (get_elem? (operations_from ops g i rest) p ≡ some (operation_of (hart_of x.what) (records_before (hart_of x.what) g j + 1) y o))
  is_listed i [] k j x e s y o f = absurd (some-ne-none x (sym e))
  is_listed i (z ∷ rest) zero j x e s y o f =
      let same : x ≡ z = sym (some-injective z x e) in
      let here : j ≡ i = omega arith in
      let h : ℕ = hart_of z.what in
      let m : ℕ = records_before h g i + 1 in (
        y,
        subst (λ (w : Line × ℕ). get_elem? (head i z ++ tail i rest) y ≡ some (operation_of (hart_of w.0.what) (records_before (hart_of w.0.what) g w.1 + 1) y o)) (λ d. (sym same d, sym here d))
            (at_left (head i z) (tail i rest) y (operation_of h m y o) (tag_at h m 0 (ops h m) y y o (subst (λ (w : Line × ℕ). slice_get (ops (hart_of w.0.what) (records_before (hart_of w.0.what) g w.1 + 1)) y ≡ Some o) (λ d. (same d, here d)) f) (omega arith))),
      )
  is_listed i (z ∷ rest) (suc k) j x e s y o f =
      let t = is_listed (suc i) rest k j x e (omega arith) y o f in
      (length (head i z) + t.0, at_right (head i z) (tail i rest) (length (head i z) + t.0) t.0 (operation_of (hart_of x.what) (records_before (hart_of x.what) g j + 1) y o) refl t.1)

module _ (plan : Planned) where
  pub op_of : (p : ℕ) (a : Operation) → At (course_of plan) p a → (o : Op) × (slice_get (plan.operations a.hart a.number) a.op ≡ Some o) × (a ≡ operation_of a.hart a.number a.op o)
  op_of p a at = is_one plan.operations plan.log.lines 0 plan.log.lines p a at

  pub op_at : (h m y : ℕ) (o : Op) → 1 ≤ m → m ≤ length_of (course_of plan) h → slice_get (plan.operations h m) y ≡ Some o → (p : ℕ) × At (course_of plan) p (operation_of h m y o)
  op_at h m y o low high f =
      let t = record_at plan.log.lines (length plan.log.lines) h m low high in
      let is : IsRecord plan.log.lines t.0 h m t.1 = t.3 in
      let P : ℕ × ℕ → Type 0 = λ z. (p : ℕ) × At (course_of plan) p (operation_of z.0 z.1 y o) in
      let number : records_before (hart_of t.1.what) plan.log.lines t.0 + 1 ≡ m = ap (λ (z : ℕ). records_before z plan.log.lines t.0 + 1) is.hart ∙ is.number in
      subst P (λ d. (is.hart d, number d))
      (is_listed plan.operations plan.log.lines 0 plan.log.lines t.0 t.0 t.1 is.at (omega arith) y o (subst (λ (z : ℕ × ℕ). slice_get (plan.operations z.0 z.1) y ≡ Some o) (λ d. (sym is.hart d, sym number d)) f))

  pub op_none : (h m y : ℕ) → slice_get (plan.operations h m) y ≡ None → (p : ℕ) (a : Operation) → At (course_of plan) p a → IsName h m y a → ⊥
  op_none h m y f p a at name =
      let t = op_of p a at in
      let there : slice_get (plan.operations h m) y ≡ Some t.0 = subst (λ (z : ℕ × ℕ × ℕ). slice_get (plan.operations z.0 z.1) z.2 ≡ Some t.0) (λ d. (name.0 d, name.1 d, name.2 d)) t.1 in
      absurd (let u : None ≡ some_op t.0 = sym f ∙ there in cc)

-- The operations of a course are in the order of its records.
use Rattle.std.proofs.Common.{◌≡◌, ℕ, zero, suc, ◌+◌, ◌<◌, ◌≤◌, ◌⊎◌, List, [], ◌∷◌, ◌++◌, length, refl, sym, ap, ◌∙◌, subst, inl, inr, ⊎_elim, arith}
use mathlib.Core.Option.{some, some-injective, some-ne-none}
use lib.ListN.{get_elem?}
use Rattle.pl_event.specs.declared.log.Line.{Line}
use Rattle.pl_event.specs.Numbers.{hart_of}
use Rattle.pl_event.specs.Records.{records_before}
use Rattle.pl_event.proofs.Places.{before_own, before_up}
use Rattle.order_core.specs.declared.course.Op.{Op}
use Rattle.order_core.specs.declared.course.Operation.{Operation}
use Rattle.order_core.specs.Course.{Planned, operation_of, tagged, operations_from, course_of}
use Rattle.order_core.specs.Lawful.{IsName, InOrder}

pub at_append : {A : Type 0} (xs ys : List A) (p : ℕ) (a : A) → get_elem? (xs ++ ys) p ≡ some a → (get_elem? xs p ≡ some a) ⊎ ((q : ℕ) × (p ≡ length xs + q) × (get_elem? ys q ≡ some a))
at_append [] ys p a e = inr (p, omega arith, e)
at_append (x ∷ xs) ys zero a e = inl e
at_append (x ∷ xs) ys (suc p) a e = ⊎_elim inl (λ (t : (q : ℕ) × (p ≡ length xs + q) × (get_elem? ys q ≡ some a)). inr (t.0, (let s : p ≡ length xs + t.0 = t.1 in omega arith), t.2)) (at_append xs ys p a e)

pub at_left : {A : Type 0} (xs ys : List A) (p : ℕ) (a : A) → get_elem? xs p ≡ some a → get_elem? (xs ++ ys) p ≡ some a
at_left [] ys p a e = absurd (some-ne-none a (sym e))
at_left (x ∷ xs) ys zero a e = e
at_left (x ∷ xs) ys (suc p) a e = at_left xs ys p a e

pub at_right : {A : Type 0} (xs ys : List A) (p q : ℕ) (a : A) → p ≡ length xs + q → get_elem? ys q ≡ some a → get_elem? (xs ++ ys) p ≡ some a
at_right [] ys p q a s e = subst (λ (z : ℕ). get_elem? ys z ≡ some a) (omega arith) e
at_right (x ∷ xs) ys zero q a s e = absurd (omega arith)
at_right (x ∷ xs) ys (suc p) q a s e = at_right xs ys p q a (omega arith) e

pub inside : {A : Type 0} (xs : List A) (p : ℕ) (a : A) → get_elem? xs p ≡ some a → p < length xs
inside [] p a e = absurd (some-ne-none a (sym e))
inside (x ∷ xs) zero a e = omega arith
inside (x ∷ xs) (suc p) a e = let l : p < length xs = inside xs p a e in omega arith

pub tag_of : (h m i : ℕ) (os : List Op) (p : ℕ) (a : Operation) → get_elem? (tagged h m i os) p ≡ some a → (a.hart ≡ h) × (a.number ≡ m) × (a.op ≡ i + p)
tag_of h m i [] p a e = absurd (some-ne-none a (sym e))
tag_of h m i (o ∷ os) zero a e = let s = some-injective (operation_of h m i o) a e in (ap (λ (z : Operation). z.hart) (sym s), ap (λ (z : Operation). z.number) (sym s), (let t : a.op ≡ i = ap (λ (z : Operation). z.op) (sym s) in omega arith))
tag_of h m i (o ∷ os) (suc p) a e = let t = tag_of h m (suc i) os p a e in (t.0, t.1, let s : a.op ≡ suc i + p = t.2 in omega arith)

tag_below : (h m i : ℕ) (os : List Op) (p k : ℕ) (a : Operation) → get_elem? (tagged h m i os) p ≡ some a → k ≤ p → (b : Operation) × (get_elem? (tagged h m i os) k ≡ some b)
tag_below h m i [] p k a e l = absurd (some-ne-none a (sym e))
tag_below h m i (o ∷ os) p zero a e l = (operation_of h m i o, refl)
tag_below h m i (o ∷ os) zero (suc k) a e l = absurd (omega arith)
tag_below h m i (o ∷ os) (suc p) (suc k) a e l = tag_below h m (suc i) os p k a e (omega arith)

module _ (ops : ℕ → ℕ → List Op) (g : List Line) where
  abbrev head : ℕ → Line → List Operation
  head i line = tagged (hart_of line.what) (records_before (hart_of line.what) g i + 1) 0 (ops (hart_of line.what) (records_before (hart_of line.what) g i + 1))

  abbrev tail : ℕ → List Line → List Operation
  tail i rest = operations_from ops g (suc i) rest

  -- the list continues the log at position i
  abbrev Goes : ℕ → List Line → Type 0
  Goes i rest = (k j : ℕ) (line : Line) → get_elem? rest k ≡ some line → j ≡ i + k → get_elem? g j ≡ some line

  goes_on : (i : ℕ) (x : Line) (rest : List Line) → Goes i (x ∷ rest) → Goes (suc i) rest
  goes_on i x rest goes k j line e s = goes (suc k) j line e (omega arith)

  -- the record of an operation
  from_record : (i : ℕ) (rest : List Line) (p : ℕ) (a : Operation) → get_elem? (operations_from ops g i rest) p ≡ some a → (j : ℕ) × (i ≤ j) × (a.number ≡ records_before a.hart g j + 1)
  from_record i [] p a e = absurd (some-ne-none a (sym e))
  from_record i (x ∷ rest) p a e = ⊎_elim
      (λ (l : get_elem? (head i x) p ≡ some a). let t = tag_of (hart_of x.what) (records_before (hart_of x.what) g i + 1) 0 (ops (hart_of x.what) (records_before (hart_of x.what) g i + 1)) p a l in
      let c : records_before (hart_of x.what) g i ≡ records_before a.hart g i = ap (λ (z : ℕ). records_before z g i) (sym t.0) in
      let n : a.number ≡ records_before (hart_of x.what) g i + 1 = t.1 in (i, omega arith, omega arith))
      (λ (r : (q : ℕ) × (p ≡ length (head i x) + q) × (get_elem? (tail i rest) q ≡ some a)). let t = from_record (suc i) rest r.0 a r.2 in (t.0, (let l : suc i ≤ t.0 = t.1 in omega arith), t.2))
      (at_append (head i x) (tail i rest) p a e)

  ordered : (i : ℕ) (rest : List Line) → Goes i rest → (p q : ℕ) (a b : Operation) → get_elem? (operations_from ops g i rest) p ≡ some a → get_elem? (operations_from ops g i rest) q ≡ some b → p < q → a.hart ≡ b.hart
      → (a.number < b.number) ⊎ ((a.number ≡ b.number) × (a.op < b.op))
  ordered i [] goes p q a b e f l same = absurd (some-ne-none a (sym e))
  ordered i (x ∷ rest) goes p q a b e f l same =
      let h : ℕ = hart_of x.what in
      let m : ℕ = records_before h g i + 1 in
      ⊎_elim
      (λ (y : get_elem? (head i x) p ≡ some a). let s = tag_of h m 0 (ops h m) p a y in ⊎_elim
      (λ (z : get_elem? (head i x) q ≡ some b). let t = tag_of h m 0 (ops h m) q b z in
      let u : a.op ≡ 0 + p = s.2 in let v : b.op ≡ 0 + q = t.2 in inr (s.1 ∙ sym t.1, omega arith))
      (λ (z : (k : ℕ) × (q ≡ length (head i x) + k) × (get_elem? (tail i rest) k ≡ some b)).
      let t = from_record (suc i) rest z.0 b z.2 in
      let bh : b.hart ≡ h = sym same ∙ s.0 in
      let own : records_before h g (i + 1) ≡ records_before h g i + 1 = before_own g i h x (goes 0 i x refl (omega arith)) refl in
      let far : suc i ≤ t.0 = t.1 in
      let up : records_before h g (i + 1) ≤ records_before h g t.0 = before_up g (i + 1) t.0 h (omega arith) in
      let c : records_before b.hart g t.0 ≡ records_before h g t.0 = ap (λ (w : ℕ). records_before w g t.0) bh in
      let n : b.number ≡ records_before b.hart g t.0 + 1 = t.2 in
      let an : a.number ≡ records_before h g i + 1 = s.1 in
      inl (omega arith))
      (at_append (head i x) (tail i rest) q b f))
      (λ (y : (k : ℕ) × (p ≡ length (head i x) + k) × (get_elem? (tail i rest) k ≡ some a)). ⊎_elim
      (λ (z : get_elem? (head i x) q ≡ some b). let k : q < length (head i x) = inside (head i x) q b z in let w : p ≡ length (head i x) + y.0 = y.1 in absurd (omega arith))
      (λ (z : (k : ℕ) × (q ≡ length (head i x) + k) × (get_elem? (tail i rest) k ≡ some b)).
      let w : p ≡ length (head i x) + y.0 = y.1 in let v : q ≡ length (head i x) + z.0 = z.1 in
      ordered (suc i) rest (goes_on i x rest goes) y.0 z.0 a b y.2 z.2 (omega arith) same)
      (at_append (head i x) (tail i rest) q b f))
      (at_append (head i x) (tail i rest) p a e)

  dense : (i : ℕ) (rest : List Line) (p : ℕ) (a : Operation) (k : ℕ) → get_elem? (operations_from ops g i rest) p ≡ some a → k < a.op → (q : ℕ) × (b : Operation) × (get_elem? (operations_from ops g i rest) q ≡ some b) × IsName a.hart a.number k b
  dense i [] p a k e l = absurd (some-ne-none a (sym e))
  dense i (x ∷ rest) p a k e l =
      let h : ℕ = hart_of x.what in
      let m : ℕ = records_before h g i + 1 in
      ⊎_elim
      (λ (y : get_elem? (head i x) p ≡ some a). let s = tag_of h m 0 (ops h m) p a y in
      let u : a.op ≡ 0 + p = s.2 in
      let t = tag_below h m 0 (ops h m) p k a y (omega arith) in
      let n = tag_of h m 0 (ops h m) k t.0 t.1 in
      let v : t.0.op ≡ 0 + k = n.2 in
      (k, t.0, at_left (head i x) (tail i rest) k t.0 t.1, (n.0 ∙ sym s.0, n.1 ∙ sym s.1, omega arith)))
      (λ (y : (j : ℕ) × (p ≡ length (head i x) + j) × (get_elem? (tail i rest) j ≡ some a)).
      let t = dense (suc i) rest y.0 a k y.2 l in
      (length (head i x) + t.0, t.1, at_right (head i x) (tail i rest) (length (head i x) + t.0) t.0 t.1 refl t.2, t.3))
      (at_append (head i x) (tail i rest) p a e)

-- the operations of a log, laid out record by record
pub course_in_order : (plan : Planned) → InOrder (course_of plan)
course_in_order plan = record {
  order = ordered plan.operations plan.log.lines 0 plan.log.lines (λ k j line e s. subst (λ (z : ℕ). get_elem? plan.log.lines z ≡ some line) (omega arith) e);
  dense = λ p a i e l. dense plan.operations plan.log.lines 0 plan.log.lines p a i e l;
}

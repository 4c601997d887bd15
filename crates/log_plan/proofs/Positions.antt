-- The records of two operations of a course, and which comes first.
use Rattle.std.proofs.Common.{◌≡◌, ◌≢◌, ℕ, zero, suc, ◌+◌, ◌<◌, ◌≤◌, ◌⊎◌, List, [], ◌∷◌, length, slice_get, Some, refl, sym, ap, ◌∙◌, subst, ⊎_elim, arith}
use mathlib.Core.Option.{some, some-injective, some-ne-none}
use lib.ListN.{get_elem?}
use Rattle.pl_event.specs.declared.event.Event.{Event}
use Rattle.pl_event.specs.declared.log.Line.{Line}
use Rattle.pl_event.specs.Conflicts.{IsOrdered}
use Rattle.pl_event.specs.Edges.{Into, IsFlow}
use Rattle.pl_event.specs.Graph.{Path}
use Rattle.pl_event.specs.Numbers.{hart_of}
use Rattle.pl_event.specs.Records.{IsEvent, records_before}
use Rattle.order_core.specs.declared.course.Op.{Op}
use Rattle.order_core.specs.declared.course.Operation.{Operation}
use Rattle.order_core.specs.Course.{Planned, operation_of, tagged, operations_from, course_of}
use Rattle.order_core.specs.Lawful.{HasPaths}
use Rattle.order_core.proofs.Flatten.{at_append, inside}
use Rattle.log_plan.specs.inner.Serving.{IsServing, Touches, AreTouching}
use Rattle.log_plan.proofs.Clashing.{path}

tag_is : (h m i : ℕ) (os : List Op) (p j : ℕ) (a : Operation) → get_elem? (tagged h m i os) p ≡ some a → j ≡ i + p → (o : Op) × (slice_get os p ≡ Some o) × (a ≡ operation_of h m j o)
tag_is h m i [] p j a e s = absurd (some-ne-none a (sym e))
tag_is h m i (o ∷ os) zero j a e s = (o, refl, sym (some-injective (operation_of h m i o) a e) ∙ (let t : i ≡ j = omega arith in ap (λ (z : ℕ). operation_of h m z o) t))
tag_is h m i (o ∷ os) (suc p) j a e s = tag_is h m (suc i) os p j a e (omega arith)

module _ (ops : ℕ → ℕ → List Op) (g : List Line) where
  -- operation y of the record at position k
  pub record IsOf (k : ℕ) (a : Operation) : Type 0 where
    pub line : Line
    pub at : get_elem? g k ≡ some line
    pub y : ℕ
    pub o : Op
    pub listed : slice_get (ops (hart_of line.what) (records_before (hart_of line.what) g k + 1)) y ≡ Some o
    pub is : a ≡ operation_of (hart_of line.what) (records_before (hart_of line.what) g k + 1) y o

  abbrev head : ℕ → Line → List Operation
  head i line = tagged (hart_of line.what) (records_before (hart_of line.what) g i + 1) 0 (ops (hart_of line.what) (records_before (hart_of line.what) g i + 1))

  abbrev tail : ℕ → List Line → List Operation
  tail i rest = operations_from ops g (suc i) rest

  -- the list continues the log at position i
  abbrev Goes : ℕ → List Line → Type 0
  Goes i rest = (k j : ℕ) (line : Line) → get_elem? rest k ≡ some line → j ≡ i + k → get_elem? g j ≡ some line

  goes_on : (i : ℕ) (x : Line) (rest : List Line) → Goes i (x ∷ rest) → Goes (suc i) rest
  goes_on i x rest goes k j line e s = goes (suc k) j line e (omega arith)

  in_head : (i : ℕ) (x : Line) (rest : List Line) → Goes i (x ∷ rest) → (p : ℕ) (a : Operation) → get_elem? (head i x) p ≡ some a → IsOf i a
  in_head i x rest goes p a e =
      let t = tag_is (hart_of x.what) (records_before (hart_of x.what) g i + 1) 0 (ops (hart_of x.what) (records_before (hart_of x.what) g i + 1)) p p a e (omega arith) in
      record { line = x; at = goes 0 i x refl (omega arith); y = p; o = t.0; listed = t.1; is = t.2 }

  pub placed : (i : ℕ) (rest : List Line) → Goes i rest → (p : ℕ) (a : Operation) → get_elem? (operations_from ops g i rest) p ≡ some a → (k : ℕ) × (i ≤ k) × IsOf k a
  placed i [] goes p a e = absurd (some-ne-none a (sym e))
  placed i (x ∷ rest) goes p a e = ⊎_elim
      (λ (l : get_elem? (head i x) p ≡ some a). (i, omega arith, in_head i x rest goes p a l))
      (λ (r : (q : ℕ) × (p ≡ length (head i x) + q) × (get_elem? (tail i rest) q ≡ some a)). let t = placed (suc i) rest (goes_on i x rest goes) r.0 a r.2 in (t.0, (let l : suc i ≤ t.0 = t.1 in omega arith), t.2))
      (at_append (head i x) (tail i rest) p a e)

  pub both_placed : (i : ℕ) (rest : List Line) → Goes i rest → (p q : ℕ) (a b : Operation) → get_elem? (operations_from ops g i rest) p ≡ some a → get_elem? (operations_from ops g i rest) q ≡ some b → p < q
      → (k r : ℕ) × (k ≤ r) × IsOf k a × IsOf r b
  both_placed i [] goes p q a b e f l = absurd (some-ne-none a (sym e))
  both_placed i (x ∷ rest) goes p q a b e f l = ⊎_elim
      (λ (y : get_elem? (head i x) p ≡ some a). let t = placed i (x ∷ rest) goes q b f in (i, t.0, t.1, in_head i x rest goes p a y, t.2))
      (λ (y : (k : ℕ) × (p ≡ length (head i x) + k) × (get_elem? (tail i rest) k ≡ some a)). ⊎_elim
      (λ (z : get_elem? (head i x) q ≡ some b). let k : q < length (head i x) = inside (head i x) q b z in let w : p ≡ length (head i x) + y.0 = y.1 in absurd (omega arith))
      (λ (z : (k : ℕ) × (q ≡ length (head i x) + k) × (get_elem? (tail i rest) k ≡ some b)).
      let w : p ≡ length (head i x) + y.0 = y.1 in let v : q ≡ length (head i x) + z.0 = z.1 in
      both_placed (suc i) rest (goes_on i x rest goes) y.0 z.0 a b y.2 z.2 (omega arith))
      (at_append (head i x) (tail i rest) q b f))
      (at_append (head i x) (tail i rest) p a e)

module _ (plan : Planned) (frame : ℕ → ℕ → ℕ) (flow : IsFlow plan.log.harts plan.log.lines) (ordered : IsOrdered plan.log) (sized : (plan.log.block ≡ 16) ⊎ (plan.log.block ≡ 4))
    (serving : IsServing plan.log.lines frame) (touching : AreTouching plan.log.block plan.log.lines frame plan.operations) where
  abbrev g : List Line
  g = plan.log.lines

  abbrev size : ℕ
  size = plan.log.block

  event_of : (k : ℕ) (a : Operation) → IsOf plan.operations g k a → (e : Event) × (a.hart ≡ e.hart) × IsEvent g k a.number e × Touches size (frame k) e.kind a.what
  event_of k a x =
      let t = touching k x.y x.line x.o x.at x.listed in
      let hart : hart_of x.line.what ≡ t.0.hart = ap hart_of t.1 in
      let own : a.hart ≡ hart_of x.line.what = ap (λ (z : Operation). z.hart) x.is in
      let number : records_before t.0.hart g k + 1 ≡ a.number = ap (λ (z : ℕ). records_before z g k + 1) (sym hart) ∙ ap (λ (z : Operation). z.number) (sym x.is) in
      (t.0, own ∙ hart, (x.line, record { at = x.at; hart = hart; number = number }, t.1), subst (λ (z : Operation). Touches size (frame k) t.0.kind z.what) (sym x.is) t.2)

  pub paths : HasPaths (course_of plan)
  paths p q a b e f less apart clash =
      let t = both_placed plan.operations g 0 g (λ k j line e s. subst (λ (z : ℕ). get_elem? g z ≡ some line) (omega arith) e) p q a b e f less in
      let x = event_of t.0 a t.3 in
      let y = event_of t.1 b t.4 in
      let i : ℕ = t.0 in
      let j : ℕ = t.1 in
      let other : x.0.hart ≢ y.0.hart = λ s. apart (x.1 ∙ (s ∙ sym y.1)) in
      let differ : i ≢ j = λ s. (other (one_line i j x.0 y.0 a.number b.number s x.2 y.2)) in
      let before : i < j = (let le : i ≤ j = t.2 in omega arith) in
      subst (λ (z : ℕ × ℕ). Path (Into g) z.0 a.number z.1 b.number) (λ d. (sym x.1 d, sym y.1 d))
      (path plan.log.harts size g frame flow ordered sized serving i j a.number b.number x.0 y.0 (record { before = before; first = x.2; second = y.2; apart = other }) a.what b.what clash x.3 y.3)
    where
      one_line : (i j : ℕ) (d e : Event) (n m : ℕ) → i ≡ j → IsEvent g i n d → IsEvent g j m e → d.hart ≡ e.hart
      one_line i j d e n m s x y =
          let f : some x.0 ≡ some y.0 = sym x.1.at ∙ (ap (get_elem? g) s ∙ y.1.at) in
          let same : x.0 ≡ y.0 = some-injective x.0 y.0 f in
          sym x.1.hart ∙ (ap (λ (z : Line). hart_of z.what) same ∙ y.1.hart)

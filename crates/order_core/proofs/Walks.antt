-- What one more operation of a hart's stream adds.
use Rattle.std.proofs.Common.{◌≡◌, ℕ, ◌+◌, ◌<◌, ◌≤◌, Bool, true, false, Option, Some, None, slice_get, refl, sym, ap, ◌∙◌, subst, arith, lt_of_not-le}
use Rattle.std.specs.Prelude.{MatchOption}
use mathlib.Core.Logic.{dite}
use native.Mathlib.Decide.{ℕ_discrete, dec_le}
use Rattle.order_core.specs.declared.course.Course.{Course}
use Rattle.order_core.specs.declared.course.Op.{Op}
use Rattle.order_core.specs.declared.course.Operation.{Operation}
use Rattle.order_core.specs.declared.place.Place.{Place}
use Rattle.order_core.specs.Course.{Planned, At, course_of, length_of, operation_of}
use Rattle.order_core.specs.Counts.{writes_before}
use Rattle.order_core.specs.Lanes.{Meets}
use Rattle.order_core.specs.Lawful.{InOrder, IsName}
use Rattle.order_core.specs.inner.Places.{place, operation_place, ClashesIf, ClashesBetween}
use Rattle.order_core.proofs.Counts.{next_read, no_more, next_record}
use Rattle.order_core.proofs.Flatten.{course_in_order}
use Rattle.order_core.proofs.Known.{Known}
use Rattle.order_core.proofs.Named.{op_of, op_at, op_none}
use Rattle.order_core.proofs.PlaceLemmas.{one_name}

-- the place after what was found there
abbrev pub IsNextPlace : ℕ → ℕ → Option Op → Place → Type 0
IsNextPlace n i found to = MatchOption found (to ≡ record { number = n + 1; op = 0 }) (λ o. to ≡ record { number = n; op = i + 1 })

abbrev pub SaysWrite : Option Op → Bool → Type 0
SaysWrite found w = MatchOption found (w ≡ false) (λ o. w ≡ o.write)

module _ (plan : Planned) (k : Known (course_of plan)) where
  abbrev c : Course
  c = course_of plan

  pub names : InOrder c
  names = course_in_order plan

  pub short : (p : ℕ) (a : Operation) → At c p a → a.op < 4294967295
  short p a at = (k.inside p a at).op

  module _ (h n i : ℕ) (from : 1 ≤ n) (low : n ≤ length_of c h) where
    pub op_short : (found : Option Op) → found ≡ slice_get (plan.operations h n) i → MatchOption found (Unit {0}) (λ o. i < 4294967295)
    op_short None e = tt
    op_short (Some o) e = let t = op_at plan h n i o from low (sym e) in short t.0 (operation_of h n i o) t.1

    pub further : (found : Option Op) (to : Place) → i ≤ 4294967295 → found ≡ slice_get (plan.operations h n) i → IsNextPlace n i found to → (1 ≤ to.number) × (place to.number to.op ≤ place (length_of c h + 1) 0) × (place n i < place to.number to.op) × (to.op ≤ 4294967295)
    further None to small e is =
        let a : to.number ≡ n + 1 = ap (λ (z : Place). z.number) is in
        let b : to.op ≡ 0 = ap (λ (z : Place). z.op) is in
        (omega arith, omega arith, omega arith, omega arith)
    further (Some o) to small e is =
        let a : to.number ≡ n = ap (λ (z : Place). z.number) is in
        let b : to.op ≡ i + 1 = ap (λ (z : Place). z.op) is in
        let s : i < 4294967295 = op_short (Some o) e in
        (omega arith, omega arith, omega arith, omega arith)

    same_count : (to : Place) (m j w : ℕ) → to ≡ record { number = m; op = j } → writes_before c h m j ≡ w → writes_before c h to.number to.op ≡ w
    same_count to m j w is e = subst (λ (z : Place). writes_before c h z.number z.op ≡ w) (sym is) e

    pub no_write : (found : Option Op) (to : Place) (w : Bool) → i ≤ 4294967295 → found ≡ slice_get (plan.operations h n) i → SaysWrite found w → w ≡ false → IsNextPlace n i found to → writes_before c h to.number to.op ≡ writes_before c h n i
    no_write None to w small e says f is = same_count to (n + 1) 0 (writes_before c h n i) is
        (sym (next_record c names short h n) ∙ no_more c names short h n i 4294967295 small (op_none plan h n i (sym e)))
    no_write (Some o) to w small e says f is =
        let t = op_at plan h n i o from low (sym e) in
        same_count to n (i + 1) (writes_before c h n i) is (next_read c names short h n i t.0 (operation_of h n i o) t.1 (refl, refl, refl) (sym says ∙ f))

    pub write_there : (found : Option Op) (w : Bool) → found ≡ slice_get (plan.operations h n) i → SaysWrite found w → w ≡ true → (p : ℕ) × (a : Operation) × At c p a × IsName h n i a × (a.what.write ≡ true)
    write_there None w e says f = absurd (let g : true ≡ false = sym f ∙ says in cc)
    write_there (Some o) w e says f = let t = op_at plan h n i o from low (sym e) in (t.0, operation_of h n i o, t.1, (refl, refl, refl), sym says ∙ f)

    module _ (read : Op) (start : ℕ) where
      -- what clashes is there or before
      pub clash_here : (found : Option Op) → start ≤ place n i → (end : ℕ) → place n i < end → found ≡ slice_get (plan.operations h n) i → ClashesIf found read → ClashesBetween c h read start end
      clash_here None low end high e clash = absurd clash
      clash_here (Some o) before end high e clash =
          let t = op_at plan h n i o from low (sym e) in
          (t.0, operation_of h n i o, t.1, clash.0, refl, clash.1, before, high)

      no_clash_here : (o : Op) (q : ℕ) (b : Operation) → slice_get (plan.operations h n) i ≡ Some o → At c q b → b.hart ≡ h → b.number ≡ n → b.op ≡ i → b.what.write ≡ true → Meets b.what read → ClashesIf (Some o) read
      no_clash_here o q b e at own number op w on =
          let t = op_of plan q b at in
          let there : slice_get (plan.operations h n) i ≡ Some t.0 = subst (λ (z : ℕ × ℕ × ℕ). slice_get (plan.operations z.0 z.1) z.2 ≡ Some t.0) (λ d. (own d, number d, op d)) t.1 in
          let same : o ≡ t.0 = (let u : Some o ≡ Some t.0 = sym e ∙ there in cc) in
          let P : Operation → Type 0 = λ z. Meets z.what read in
          let on' : Meets t.0 read = subst P t.2 on in
          let w' : t.0.write ≡ true = sym (ap (λ (z : Operation). z.what.write) t.2) ∙ w in
          subst (λ (z : Op). ClashesIf (Some z) read) (sym same) (w', on')

      pub no_clash : (found : Option Op) (to : Place) → i ≤ 4294967295 → found ≡ slice_get (plan.operations h n) i → IsNextPlace n i found to → (ClashesIf found read → ⊥) → (ClashesBetween c h read start (place n i) → ⊥) → ClashesBetween c h read start (place to.number to.op) → ⊥
      no_clash None to small e is apart none t =
          let b : Operation = t.1 in
          let x : to.number ≡ n + 1 = ap (λ (z : Place). z.number) is in
          let y : to.op ≡ 0 = ap (λ (z : Place). z.op) is in
          let high : operation_place b < place to.number to.op = t.7 in
          let s : b.op < 4294967295 = short t.0 b t.2 in
          dite (dec_le (place n i) (operation_place b))
          (λ le. let number : b.number ≡ n = omega arith in dite (ℕ_discrete b.op i)
          (λ e'. op_none plan h n i (sym e) t.0 b t.2 (t.4, number, e'))
          (λ ne. let o : b.op ≡ i → ⊥ = ne in
          let d = names.dense t.0 b i t.2 (omega arith) in
          op_none plan h n i (sym e) d.0 d.1 d.2 (d.3.0 ∙ t.4, d.3.1 ∙ number, d.3.2)))
          (λ l. none (t.0, b, t.2, t.3, t.4, t.5, t.6, lt_of_not-le l))
      no_clash (Some o) to small e is apart none t =
          let b : Operation = t.1 in
          let x : to.number ≡ n = ap (λ (z : Place). z.number) is in
          let y : to.op ≡ i + 1 = ap (λ (z : Place). z.op) is in
          let high : operation_place b < place to.number to.op = t.7 in
          let s : b.op < 4294967295 = short t.0 b t.2 in
          dite (dec_le (place n i) (operation_place b))
          (λ le. let here = one_name b.number b.op n i (omega arith) small (omega arith) in
          apart (no_clash_here o t.0 b (sym e) t.2 t.4 here.0 here.1 t.3 t.5))
          (λ l. none (t.0, b, t.2, t.3, t.4, t.5, t.6, lt_of_not-le l))

-- What is kept of a hart decides what it may do next.
use Rattle.std.proofs.Common.{◌≡◌, ◌≢◌, ℕ, ◌+◌, ◌<◌, ◌≤◌, true, false, length, List, Some, slice_get, slice_index, min, refl, sym, ap, ◌∙◌, subst, arith, lt_of_not-le}
use mathlib.Core.Logic.{dite}
use native.Mathlib.Decide.{ℕ_discrete, dec_le}
use mathlib.Core.Option.{some-injective}
use Rattle.order_core.specs.declared.course.Course.{Course}
use Rattle.order_core.specs.declared.course.Op.{Op}
use Rattle.order_core.specs.declared.course.Operation.{Operation}
use Rattle.order_core.specs.declared.place.Place.{Place}
use Rattle.order_core.specs.declared.state.HartState.{HartState}
use Rattle.order_core.specs.Course.{Planned, At, course_of, length_of, operation_of, rank}
use Rattle.order_core.specs.Core.{IsMet, IsPassed, IsCursor, MayWrite, MayRead}
use Rattle.order_core.specs.Counts.{writes_before}
use Rattle.order_core.specs.Lawful.{IsName}
use Rattle.order_core.specs.inner.Places.{place, operation_place, ClashesBetween}
use Rattle.order_core.specs.inner.Kept.{IsKept}
use Rattle.order_core.proofs.Counts.{rank_by_name, next_write}
use Rattle.order_core.proofs.Keeps.{met_less}
use Rattle.order_core.proofs.Known.{Known}
use Rattle.order_core.proofs.Named.{op_of}
use Rattle.order_core.proofs.Ranks.{is_write, rank_lt}
use Rattle.order_core.proofs.PlaceLemmas.{one_name, in_place, by_place, counted}
use Rattle.order_core.proofs.Walks.{names, short}

module _ (plan : Planned) (k : Known (course_of plan)) where
  abbrev c : Course
  c = course_of plan

  -- an operation of a name is the one that is asked for
  pub only_one : (h n i p : ℕ) (a : Operation) (o : Op) → slice_get (plan.operations h n) i ≡ Some o → At c p a → IsName h n i a → a ≡ operation_of h n i o
  only_one h n i p a o e at name =
      let t = op_of plan p a at in
      let there : slice_get (plan.operations h n) i ≡ Some t.0 = subst (λ (z : ℕ × ℕ × ℕ). slice_get (plan.operations z.0 z.1) z.2 ≡ Some t.0) (λ d. (name.0 d, name.1 d, name.2 d)) t.1 in
      let same : t.0 ≡ o = (let u : Some o ≡ Some t.0 = sym e ∙ there in cc) in
      t.2 ∙ (λ d. operation_of (name.0 d) (name.1 d) (name.2 d) (same d))

  module _ (h : ℕ) (s : HartState) (kept : IsKept c h s) where
    abbrev seen : ℕ → ℕ
    seen = slice_index s.seen

    next_small : s.next.op ≤ 4294967295
    next_small = dite (dec_le s.next.number (length_of c h))
        (λ low. let t = kept.there low in let e : t.1.op ≡ s.next.op = t.3.2 in let l : t.1.op < 4294967295 = short plan k t.0 t.1 t.2 in omega arith)
        (λ n. let l : length_of c h < s.next.number = lt_of_not-le n in let w : place s.next.number s.next.op ≤ place (length_of c h + 1) 0 = kept.within in omega arith)

    -- the performed writes are those before the next
    done_before : (q : ℕ) (b : Operation) → At c q b → b.hart ≡ h → b.what.write ≡ true → (rank h c.operations q < s.written → operation_place b < place s.next.number s.next.op) × (operation_place b < place s.next.number s.next.op → rank h c.operations q < s.written)
    done_before q b at own w = counted c (names plan k) (short plan k) h s.next.number s.next.op s.written q b next_small kept.count at own w

    pub passed_up : (upto met : ℕ) → upto < s.next.number → upto ≤ met → IsMet c seen h met → IsPassed c s.written seen h upto
    passed_up upto met below le is =
        let w : place s.next.number s.next.op ≤ place (length_of c h + 1) 0 = kept.within in
        let top : s.next.number ≤ length_of c h + 1 = omega arith in (
          omega arith,
          met_less c seen h met upto le is,
          λ p a at own wr number. let s' : a.op < 4294967295 = short plan k p a at in (done_before p a at own wr).1 (omega arith),
        )

    pub passed_below : (upto : ℕ) → IsPassed c s.written seen h upto → upto < s.next.number
    passed_below upto passed = dite (dec_le s.next.number upto)
        (λ le. let top : upto ≤ length_of c h = passed.0 in
        let t = kept.there (omega arith) in
        let n : t.1.number ≡ s.next.number = t.3.1 in
        let e : t.1.op ≡ s.next.op = t.3.2 in
        let low : operation_place t.1 < place s.next.number s.next.op = (done_before t.0 t.1 t.2 t.3.0 t.4).0 (passed.2 t.0 t.1 t.2 t.3.0 t.4 (omega arith)) in
        absurd (omega arith))
        lt_of_not-le

    -- the cursor is the lower of what was found to be met and what is before the next write
    pub cursor_is : (low met : ℕ) → s.next.number ≡ low + 1 → IsMet c seen h met → ((m : ℕ) → m ≤ low → IsMet c seen h m → m ≤ met) → IsCursor c s.written seen h (min low met)
    cursor_is low met e is most = record {
      passed = passed_up (min low met) met (omega arith) (omega arith) is;
      most = λ m passed. let l : m < s.next.number = passed_below m passed in let r : m ≤ met = most m (omega arith) passed.1 in omega arith;
    }

    pub may_write : (n i met p : ℕ) (a : Operation) → At c p a → IsName h n i a → a.what.write ≡ true → place n i ≡ place s.next.number s.next.op → i ≤ 4294967295 → IsMet c seen h met → n ≤ met → MayWrite c h s.written seen p a
    may_write n i met p a at name w e small is le =
        let one = one_name n i s.next.number s.next.op small next_small e in
        let r : rank h c.operations p ≡ writes_before c h n i = rank_by_name c (names plan k) (short plan k) h n i p a at name in
        let same : writes_before c h n i ≡ s.written = (λ d. writes_before c h (one.0 d) (one.1 d)) ∙ sym kept.count in
        let number : a.number ≡ n = name.1 in
        (at, w, name.0, r ∙ same, met_less c seen h met a.number (omega arith) is)

    pub is_next : (p : ℕ) (a : Operation) → MayWrite c h s.written seen p a → operation_place a ≡ place s.next.number s.next.op
    is_next p a may =
        let full : rank h c.operations p ≡ s.written = may.3 in
        let d = done_before p a may.0 may.2 may.1 in
        let high : place s.next.number s.next.op ≤ operation_place a = dite (dec_le (place s.next.number s.next.op) (operation_place a)) (λ l. l) (λ n. let l : rank h c.operations p < s.written = d.1 (lt_of_not-le n) in absurd (omega arith)) in
        let number : a.number ≤ length_of c h = subst (λ (z : ℕ). a.number ≤ length_of c z) may.2 (k.inside p a may.0).number in
        let s' : a.op < 4294967295 = short plan k p a may.0 in
        let small : s.next.op ≤ 4294967295 = next_small in
        let low : s.next.number ≤ length_of c h = omega arith in
        let t = kept.there low in
        let n : t.1.number ≡ s.next.number = t.3.1 in
        let e : t.1.op ≡ s.next.op = t.3.2 in
        dite (ℕ_discrete (operation_place a) (place s.next.number s.next.op)) (λ y. y)
        (λ ne. let o : operation_place a ≡ place s.next.number s.next.op → ⊥ = ne in
        let more : writes_before c h t.1.number (t.1.op + 1) ≡ writes_before c h t.1.number t.1.op + 1 = next_write c (names plan k) (short plan k) h t.1.number t.1.op t.0 t.1 t.2 (t.3.0, refl, refl) t.4 in
        let here : writes_before c h t.1.number t.1.op ≡ s.written = (λ d. writes_before c h (t.3.1 d) (t.3.2 d)) ∙ sym kept.count in
        let before : t.0 < p = by_place c (names plan k) (short plan k) t.0 p t.1 a t.2 may.0 (t.3.0 ∙ sym may.2) (omega arith) in
        let up : rank h c.operations t.0 < rank h c.operations p = rank_lt h c.operations t.0 p t.1 t.2 (is_write h t.1 t.4 t.3.0) before in
        let r : rank h c.operations t.0 ≡ writes_before c h t.1.number t.1.op = rank_by_name c (names plan k) (short plan k) h t.1.number t.1.op t.0 t.1 t.2 (t.3.0, refl, refl) in
        absurd (omega arith))

    -- what is kept after the hart's next write
    pub written_kept : (n i met p : ℕ) (a : Operation) (to : Place) → At c p a → IsName h n i a → a.what.write ≡ true → place n i ≡ place s.next.number s.next.op → i ≤ 4294967295
        → IsMet c seen h met → met ≤ length_of c h
        → 1 ≤ to.number → place to.number to.op ≤ place (length_of c h + 1) 0 → writes_before c h to.number to.op ≡ writes_before c h n (i + 1)
        → (to.number ≤ length_of c h → (q : ℕ) × (b : Operation) × At c q b × IsName h to.number to.op b × (b.what.write ≡ true))
        → IsKept c h (record s { written = s.written + 1; next = to; met = met })
    written_kept n i met p a to at name w e small is top from within count there =
        let one = one_name n i s.next.number s.next.op small next_small e in
        let same : writes_before c h n i ≡ s.written = (λ d. writes_before c h (one.0 d) (one.1 d)) ∙ sym kept.count in
        let more : writes_before c h n (i + 1) ≡ writes_before c h n i + 1 = next_write c (names plan k) (short plan k) h n i p a at name w in
        record { eight = kept.eight; met_low = top; met = is; from_one = from; within = within; count = omega arith; there = there }

    -- the same once more needs were found to be met, or more is advertised
    pub met_kept : (met progress : ℕ) → IsMet c seen h met → met ≤ length_of c h → IsKept c h (record s { progress = progress; met = met })
    met_kept met progress is top = record { eight = kept.eight; met_low = top; met = is; from_one = kept.from_one; within = kept.within; count = kept.count; there = kept.there }

    pub seen_kept : (more : List ℕ) → length more ≡ 8 → ((u : ℕ) → slice_index s.seen u ≤ slice_index more u) → IsKept c h (record s { seen = more })
    seen_kept more eight up = record { eight = eight; met_low = kept.met_low; met = λ u n j need le. (let l : n ≤ slice_index s.seen u = kept.met u n j need le in let r : slice_index s.seen u ≤ slice_index more u = up u in omega arith); from_one = kept.from_one; within = kept.within; count = kept.count; there = kept.there }

    module _ (n i p : ℕ) (o : Op) (at : At c p (operation_of h n i o)) (is_read : o.write ≡ false) where
      abbrev a : Operation
      a = operation_of h n i o

      apart : (q : ℕ) (b : Operation) → At c q b → b.what.write ≡ true → p ≢ q
      apart q b is w e = let same : a ≡ b = some-injective a b (sym at ∙ subst (λ (z : ℕ). At c z b) (sym e) is) in
          let f : false ≡ true = sym is_read ∙ (ap (λ (z : Operation). z.what.write) same ∙ w) in absurd (cc)

      -- no write that clashes is between the read and the next write, whichever of them is first
      abbrev IsClear : Type 0
      IsClear = (ClashesBetween c h o (place n i) (place s.next.number s.next.op) → ⊥) × (ClashesBetween c h o (place s.next.number s.next.op) (place n i) → ⊥)

      pub may_read : (met : ℕ) → IsMet c seen h met → n ≤ met → s.progress < n → IsClear → MayRead c h s.written s.progress seen p a
      may_read met is le up clear = (
        at,
        is_read,
        refl,
        met_less c seen h met n le is,
        up,
        λ q b there w own on. let d = done_before q b there own w in (
          (λ l. dite (dec_le p q)
              (λ le'. let ne : p ≡ q → ⊥ = apart q b there w in
              let after : place n i < operation_place b = in_place c (names plan k) (short plan k) p q a b at there (sym own) (omega arith) in
              absurd (clear.0 (q, b, there, w, own, on, (omega arith), d.0 l)))
              lt_of_not-le),
          (λ l. let first : operation_place b < place n i = in_place c (names plan k) (short plan k) q p b a there at own l in
              dite (dec_le (place s.next.number s.next.op) (operation_place b))
              (λ le'. absurd (clear.1 (q, b, there, w, own, on, le', first)))
              (λ x. d.1 (lt_of_not-le x))),
        ),
      )

      pub clear_read : MayRead c h s.written s.progress seen p a → IsClear
      clear_read may = (
        (λ t. let d = done_before t.0 t.1 t.2 t.4 t.3 in
            let r = may.5 t.0 t.1 t.2 t.3 t.4 t.5 in
            let first : t.0 < p = r.0 (d.1 t.7) in
            let l : operation_place t.1 < place n i = in_place c (names plan k) (short plan k) t.0 p t.1 a t.2 at t.4 first in
            let le : place n i ≤ operation_place t.1 = t.6 in absurd (omega arith)),
        (λ t. let d = done_before t.0 t.1 t.2 t.4 t.3 in
            let r = may.5 t.0 t.1 t.2 t.3 t.4 t.5 in
            let first : t.0 < p = by_place c (names plan k) (short plan k) t.0 p t.1 a t.2 at t.4 t.7 in
            let l : operation_place t.1 < place s.next.number s.next.op = d.0 (r.1 first) in
            let le : place s.next.number s.next.op ≤ operation_place t.1 = t.6 in absurd (omega arith)),
      )

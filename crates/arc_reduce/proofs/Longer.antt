-- A reduced log with one line more.
use Rattle.std.proofs.Common.{◌≡◌, ℕ, zero, suc, ◌+◌, ◌<◌, ◌≤◌, ◌⊎◌, inl, inr, ⊎_elim, ◌++◌, List, [], ◌∷◌, length, slice_index_or, Option, Some, None, refl, sym, ap, ◌∙◌, subst, arith}
use mathlib.Core.Option.{some-ne-none}
use Rattle.pl_event.specs.declared.log.Line.{Line}
use Rattle.pl_event.specs.Edges.{IsArc, IsNotice, IsAfter, Into, IsFlow, arc_of}
use Rattle.pl_event.specs.Graph.{Edge}
use Rattle.pl_event.specs.Numbers.{hart_of}
use Rattle.pl_event.specs.Records.{records_before, IsRecord, line_number}
use Rattle.pl_event.proofs.Edges.{forward, source_before}
use Rattle.pl_event.proofs.Growth.{agree, record_on, record_back, record_low}
use Rattle.pl_event.proofs.Places.{inside, before_own, before_up, record_at, line_number_zero}
use Rattle.log_clocks.proofs.Grown.{before_same, notice_on, notice_back}
use Rattle.arc_reduce.specs.Reduction.{IntoBut, IsSpare, IsReduced, IsChosen, AreChosen}
use Rattle.arc_reduce.specs.Taken.{with_arcs, with_line, next_number}
use Rattle.arc_reduce.proofs.Matching.{count_same, length_same}
use Rattle.arc_reduce.proofs.Ends.{number, last_record, either, records_more}
use Rattle.arc_reduce.proofs.Spare.{some_is, no_some}

module _ (harts : ℕ) (f : List Line) (x : Line) (flow : IsFlow harts (f ++ x ∷ [])) where
  abbrev F : List Line
  F = f ++ x ∷ []

  abbrev In : ℕ → ℕ → Type 0
  In h m = m ≤ records_before h f (length f)

  in_source : (v k w l : ℕ) → In w l → Into F v k w l → In v k
  in_source v k w zero le e = absurd (let a : line_number F v k < line_number F w 0 = forward harts F flow v k w 0 (inr e) in let z : line_number F w 0 ≡ 0 = line_number_zero F w in omega arith)
  in_source v k w (suc l) le e =
      let t = record_at f (length f) w (suc l) (omega arith) le in
      let low : t.0 < length f = t.2 in
      let s : k ≤ records_before v F t.0 = source_before harts F flow t.0 w (suc l) v k t.1 (record_on f (x ∷ []) t.0 w (suc l) t.1 t.3) e in
      let same : records_before v F t.0 ≡ records_before v f t.0 = before_same f (x ∷ []) v t.0 (omega arith) in
      let up : records_before v f t.0 ≤ records_before v f (length f) = before_up f t.0 (length f) v (omega arith) in
      omega arith

  own_source : (v k w l : ℕ) → In w l → (v ≡ w) × (k + 1 ≡ l) → In v k
  own_source v k w l le s = subst (λ (z : ℕ). In z k) (sym s.0) (let e : k + 1 ≡ l = s.1 in omega arith)

  pub arc_on : (v k w l : ℕ) → IsArc f v k w l → IsArc F v k w l
  arc_on v k w l a = (a.0, a.1, record_on f (x ∷ []) a.0 w l a.1 a.2, a.3)

  arc_back : (v k w l : ℕ) → In w l → IsArc F v k w l → IsArc f v k w l
  arc_back v k w l le a = (a.0, a.1, record_back f (x ∷ []) a.0 w l a.1 (record_low f (x ∷ []) a.0 w l a.1 le a.2) a.2, a.3)

  after_on : (v k w l : ℕ) → IsAfter f v k w l → IsAfter F v k w l
  after_on v k w l a = (a.0, a.1, a.2, record_on f (x ∷ []) a.0 w l a.1 a.3, a.4, notice_on f (x ∷ []) w a.2 v k a.5)

  after_back : (v k w l : ℕ) → In w l → IsAfter F v k w l → IsAfter f v k w l
  after_back v k w l le a = (
    a.0,
    a.1,
    a.2,
    record_back f (x ∷ []) a.0 w l a.1 (record_low f (x ∷ []) a.0 w l a.1 le a.3) a.3,
    a.4,
    notice_back f (x ∷ []) w a.2 v k (let e : a.2 + 1 ≡ l = a.4 in let b : l ≤ records_before w f (length f) = le in let r : a.2 ≤ records_before w f (length f) = omega arith in r) a.5,
  )

  module _ (a b c d : ℕ) where
    edge_on : (v k w l : ℕ) → In w l → Edge (IntoBut f a b c d) v k w l → Edge (IntoBut F a b c d) v k w l × In v k
    edge_on v k w l le (inl s) = (inl s, own_source v k w l le s)
    edge_on v k w l le (inr (inl e)) = (inr (inl (arc_on v k w l e.0, e.1)), in_source v k w l le (inl (arc_on v k w l e.0)))
    edge_on v k w l le (inr (inr (inl e))) = let n : IsNotice F v k w l = notice_on f (x ∷ []) v k w l e in (inr (inr (inl n)), in_source v k w l le (inr (inl n)))
    edge_on v k w l le (inr (inr (inr e))) = (inr (inr (inr (after_on v k w l e))), in_source v k w l le (inr (inr (after_on v k w l e))))

    edge_back : (v k w l : ℕ) → In w l → Edge (IntoBut F a b c d) v k w l → Edge (IntoBut f a b c d) v k w l × In v k
    edge_back v k w l le (inl s) = (inl s, own_source v k w l le s)
    edge_back v k w l le (inr (inl e)) = (inr (inl (arc_back v k w l le e.0, e.1)), in_source v k w l le (inl e.0))
    edge_back v k w l le (inr (inr (inl e))) = let s : In v k = in_source v k w l le (inr (inl e)) in (inr (inr (inl (notice_back f (x ∷ []) v k w l s e))), s)
    edge_back v k w l le (inr (inr (inr e))) = (inr (inr (inr (after_back v k w l le e))), in_source v k w l le (inr (inr e)))

    pub spare_on : In c d → IsSpare f a b c d → IsSpare F a b c d
    spare_on le = agree (IntoBut f a b c d) (IntoBut F a b c d) In edge_on a b c d le

    pub spare_back : In c d → IsSpare F a b c d → IsSpare f a b c d
    spare_back le = agree (IntoBut F a b c d) (IntoBut f a b c d) In edge_back a b c d le

numbered : (f : List Line) (i w l : ℕ) (line : Line) → IsRecord f i w l line → l ≤ records_before w f (length f)
numbered f i w l line is =
    let low : i < length f = inside f i line is.at in
    let own : records_before w f (i + 1) ≡ records_before w f i + 1 = before_own f i w line is.at is.hart in
    let num : records_before w f i + 1 ≡ l = is.number in
    let up : records_before w f (i + 1) ≤ records_before w f (length f) = before_up f (i + 1) (length f) w (omega arith) in
    omega arith

module _ (harts : ℕ) (g f : List Line) (line : Line) (candidates kept : List (Option ℕ)) (flow : IsFlow harts (with_line f line candidates)) (reduced : IsReduced g f)
    (chosen : AreChosen (with_line f line candidates) (hart_of line.what) (next_number f line) candidates kept) where
  abbrev x : Line
  x = with_arcs line candidates

  abbrev y : Line
  y = with_arcs line kept

  abbrev h : ℕ
  h = hart_of line.what

  abbrev m : ℕ
  m = next_number f line

  abbrev All : List Line
  All = f ++ x ∷ []

  abbrev Some_of : List Line
  Some_of = g ++ y ∷ []

  counts : (w : ℕ) → records_before w g (length g) ≡ records_before w f (length f)
  counts w = count_same g f reduced.records w (length g) ∙ ap (records_before w f) (length_same g f reduced.records)

  same_number : number g y ≡ m
  same_number = ap (λ (z : ℕ). z + 1) (counts h)

  y_end : IsRecord Some_of (length g) h m y
  y_end = subst (λ (z : ℕ). IsRecord Some_of (length g) h z y) same_number (last_record g y)

  candidate_of : (u n : ℕ) → arc_of y u ≡ Some n → arc_of x u ≡ Some n
  candidate_of u n = by (slice_index_or candidates u None) (slice_index_or kept u None) (chosen u)
    where
      by : (o k : Option ℕ) → IsChosen All u h m o k → k ≡ Some n → o ≡ Some n
      by None k c e = absurd (no_some n c e)
      by (Some p) k (inl t) e = λ d. Some (some_is t.0 e d)
      by (Some p) k (inr t) e = absurd (no_some n t.0 e)

  only : (u n w l : ℕ) → IsArc Some_of u n w l → IsArc All u n w l
  only u n w l a = ⊎_elim
      (λ (t : (a.0 < length g) × IsRecord g a.0 w l a.1). arc_on harts f x flow u n w l (reduced.only u n w l (a.0, a.1, t.1, a.3)))
      (λ (t : (a.0 ≡ length g) × (a.1 ≡ y) × (w ≡ h) × (l ≡ number g y)). (
        length f,
        x,
        subst (λ (z : ℕ × ℕ). IsRecord All (length f) z.0 z.1 x) (λ d. (sym t.2 d, sym (t.3 ∙ same_number) d)) (last_record f x),
        candidate_of u n (sym (ap (λ (z : Line). arc_of z u) t.1) ∙ a.3),
      ))
      (either g y a.0 w l a.1 a.2)

  -- the arc of a record that is not the last one is one of the shorter log
  low_arc : (u n w l : ℕ) → l ≤ records_before w f (length f) → IsArc Some_of u n w l → IsArc g u n w l
  low_arc u n w l le a = ⊎_elim
      (λ (t : (a.0 < length g) × IsRecord g a.0 w l a.1). (a.0, a.1, t.1, a.3))
      (λ (t : (a.0 ≡ length g) × (a.1 ≡ y) × (w ≡ h) × (l ≡ number g y)).
      absurd (let e : l ≡ m = t.3 ∙ same_number in let s : records_before w f (length f) ≡ records_before h f (length f) = ap (λ (z : ℕ). records_before z f (length f)) t.2 in omega arith))
      (either g y a.0 w l a.1 a.2)

  last_arc : (u n : ℕ) → IsArc Some_of u n h m → arc_of y u ≡ Some n
  last_arc u n a = ⊎_elim
      (λ (t : (a.0 < length g) × IsRecord g a.0 h m a.1).
      absurd (let e : m ≤ records_before h g (length g) = numbered g a.0 h m a.1 t.1 in let s : records_before h g (length g) ≡ records_before h f (length f) = counts h in omega arith))
      (λ (t : (a.0 ≡ length g) × (a.1 ≡ y) × (h ≡ h) × (m ≡ number g y)). sym (ap (λ (z : Line). arc_of z u) t.1) ∙ a.3)
      (either g y a.0 h m a.1 a.2)

  abbrev Answer : ℕ → ℕ → ℕ → ℕ → Type 0
  Answer u n w l = (IsArc Some_of u n w l × (IsSpare All u n w l → ⊥)) ⊎ ((IsArc Some_of u n w l → ⊥) × IsSpare All u n w l)

  early : (u n w l i : ℕ) (k : Line) → IsRecord f i w l k → arc_of k u ≡ Some n → Answer u n w l
  early u n w l i k is arc =
      let le : l ≤ records_before w f (length f) = numbered f i w l k is in
      ⊎_elim
      (λ (t : IsArc g u n w l × (IsSpare f u n w l → ⊥)). inl ((t.0.0, t.0.1, record_on g (y ∷ []) t.0.0 w l t.0.1 t.0.2, t.0.3), λ s. t.1 (spare_back harts f x flow u n w l le s)))
      (λ (t : (IsArc g u n w l → ⊥) × IsSpare f u n w l). inr ((λ a. t.0 (low_arc u n w l le a)), spare_on harts f x flow u n w l le t.1))
      (reduced.arcs u n w l (i, k, is, arc))

  final : (u n : ℕ) → arc_of x u ≡ Some n → Answer u n h m
  final u n arc = by (subst (λ (o : Option ℕ). IsChosen All u h m o (slice_index_or kept u None)) arc (chosen u))
    where
      by : IsChosen All u h m (Some n) (slice_index_or kept u None) → Answer u n h m
      by (inl t) = inl ((length g, y, y_end, t.0), t.1)
      by (inr t) = inr ((λ a. no_some n t.0 (last_arc u n a)), t.1)

  pub longer_reduced : IsReduced Some_of All
  longer_reduced = record {
    records = records_more g f y x reduced.records refl;
    only = only;
    arcs = λ u n w l a. ⊎_elim
        (λ (t : (a.0 < length f) × IsRecord f a.0 w l a.1). early u n w l a.0 a.1 t.1 a.3)
        (λ (t : (a.0 ≡ length f) × (a.1 ≡ x) × (w ≡ h) × (l ≡ m)).
        subst (λ (z : ℕ × ℕ). Answer u n z.0 z.1) (λ d. (sym t.2 d, sym t.3 d)) (final u n (sym (ap (λ (z : Line). arc_of z u) t.1) ∙ a.3)))
        (either f x a.0 w l a.1 a.2);
  }

pub nothing_reduced : IsReduced [] []
nothing_reduced = record {
  records = refl;
  only = λ u n h m a. a;
  arcs = λ u n h m a. absurd (some-ne-none a.1 (sym a.2.at));
}

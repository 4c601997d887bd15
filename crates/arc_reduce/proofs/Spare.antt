-- A candidate is spare exactly where its source reaches its record in the log without it.
use Rattle.std.proofs.Common.{◌≡◌, ℕ, ◌+◌, ◌<◌, ◌≤◌, inl, inr, ⊎_elim, ◌++◌, List, [], ◌∷◌, length, Option, Some, None, refl, sym, ap, ◌∙◌, subst, arith}
use Rattle.pl_event.specs.declared.log.Line.{Line}
use Rattle.pl_event.specs.Edges.{IsArc, Into, IsFlow, arc_of}
use Rattle.pl_event.specs.Graph.{Path, one, IsClock}
use Rattle.pl_event.specs.Numbers.{hart_of}
use Rattle.pl_event.specs.Records.{records_before, IsRecord}
use Rattle.pl_event.proofs.Growth.{record_on}
use Rattle.pl_event.proofs.Places.{one_place}
use Rattle.pl_event.proofs.Paths.{lifted}
use Rattle.arc_reduce.specs.Reduction.{records_in, IntoBut, IsSpare}
use Rattle.arc_reduce.proofs.Matching.{notice_same, after_same, fewer_arcs}
use Rattle.arc_reduce.proofs.Ends.{number, last_record, either, records_more}

pub some_is : {a b : ℕ} {o : Option ℕ} → o ≡ Some a → o ≡ Some b → a ≡ b
some_is p q = let s : Some _ ≡ Some _ = sym p ∙ q in cc

pub no_some : (k : ℕ) {o : Option ℕ} → o ≡ None → o ≡ Some k → ⊥
no_some k p q = let s : None ≡ Some k = sym p ∙ q in cc

-- the last line x has an arc from hart u, and y is that line without it
module _ (g : List Line) (x y : Line) (what : x.what ≡ y.what) (u n : ℕ) (has : arc_of x u ≡ Some n) (none : arc_of y u ≡ None) (others : (v : ℕ) → (v ≡ u → ⊥) → arc_of y v ≡ arc_of x v) where
  abbrev h : ℕ
  h = hart_of x.what

  abbrev m : ℕ
  m = number g x

  abbrev F : List Line
  F = g ++ x ∷ []

  abbrev G : List Line
  G = g ++ y ∷ []

  same : records_in G ≡ records_in F
  same = records_more g g y x refl (sym what)

  -- the record is none of those before it
  apart : (i : ℕ) (l : Line) → i < length g → IsRecord F i h m l → ⊥
  apart i l low is = let t = one_place F h m i (length g) l x is (last_record g x) in let e : i ≡ length g = t.0 in omega arith

  x_end : IsRecord F (length g) h m x
  x_end = last_record g x

  number_at : number g y ≡ number g x
  number_at = ap (λ (z : ℕ). records_before z g (length g) + 1) (ap hart_of (sym what))

  y_end : IsRecord G (length g) h m y
  y_end = subst (λ (z : ℕ × ℕ). IsRecord G (length g) z.0 z.1 y) (λ d. (ap hart_of (sym what) d, number_at d)) (last_record g y)

  arc_on : (v k w l : ℕ) → IsArc G v k w l → IsArc F v k w l × ((v ≡ u) × (k ≡ n) × (w ≡ h) × (l ≡ m) → ⊥)
  arc_on v k w l a = ⊎_elim
      (λ (t : (a.0 < length g) × IsRecord g a.0 w l a.1). (
        (a.0, a.1, record_on g (x ∷ []) a.0 w l a.1 t.1, a.3),
        λ s. apart a.0 a.1 t.0 (subst (λ (z : ℕ × ℕ). IsRecord F a.0 z.0 z.1 a.1) (λ d. (s.2 d, s.3 d)) (record_on g (x ∷ []) a.0 w l a.1 t.1)),
      ))
      (λ (t : (a.0 ≡ length g) × (a.1 ≡ y) × (w ≡ hart_of y.what) × (l ≡ number g y)).
      let arc : arc_of y v ≡ Some k = sym (ap (λ (z : Line). arc_of z v) t.1) ∙ a.3 in
      let ne : v ≡ u → ⊥ = λ e. no_some k none (sym (ap (arc_of y) e) ∙ arc) in
      let hart : w ≡ h = t.2 ∙ ap hart_of (sym what) in
      let num : l ≡ m = t.3 ∙ number_at in
      ((length g, x, subst (λ (z : ℕ × ℕ). IsRecord F (length g) z.0 z.1 x) (λ d. (sym hart d, sym num d)) x_end, sym (others v ne) ∙ arc), λ s. ne s.0))
      (either g y a.0 w l a.1 a.2)

  into : (v k w l : ℕ) → Into G v k w l → IntoBut F u n h m v k w l
  into v k w l (inl a) = inl (arc_on v k w l a)
  into v k w l (inr (inl a)) = inr (inl (notice_same G F same v k w l a))
  into v k w l (inr (inr a)) = inr (inr (after_same G F same v k w l a))

  arc_back : (v k w l : ℕ) → IsArc F v k w l → ((v ≡ u) × (k ≡ n) × (w ≡ h) × (l ≡ m) → ⊥) → IsArc G v k w l
  arc_back v k w l a differs = ⊎_elim
      (λ (t : (a.0 < length g) × IsRecord g a.0 w l a.1). (a.0, a.1, record_on g (y ∷ []) a.0 w l a.1 t.1, a.3))
      (λ (t : (a.0 ≡ length g) × (a.1 ≡ x) × (w ≡ h) × (l ≡ m)).
      let arc : arc_of x v ≡ Some k = sym (ap (λ (z : Line). arc_of z v) t.1) ∙ a.3 in
      let ne : v ≡ u → ⊥ = λ e. differs (e, some_is (sym (ap (arc_of x) e) ∙ arc) has, t.2, t.3) in
      (length g, y, subst (λ (z : ℕ × ℕ). IsRecord G (length g) z.0 z.1 y) (λ d. (sym t.2 d, sym t.3 d)) y_end, others v ne ∙ arc))
      (either g x a.0 w l a.1 a.2)

  back : (v k w l : ℕ) → IntoBut F u n h m v k w l → Into G v k w l
  back v k w l (inl a) = inl (arc_back v k w l a.0 a.1)
  back v k w l (inr (inl a)) = inr (inl (notice_same F G (sym same) v k w l a))
  back v k w l (inr (inr a)) = inr (inr (after_same F G (sym same) v k w l a))

  pub spare_of : Path (Into G) u n h m → IsSpare F u n h m
  spare_of = lifted (Into G) (IntoBut F u n h m) (λ v k w l e. one (inr (into v k w l e))) u n h m

  pub of_spare : IsSpare F u n h m → Path (Into G) u n h m
  of_spare = lifted (IntoBut F u n h m) (Into G) (λ v k w l e. one (inr (back v k w l e))) u n h m

  pub flow_without : (harts : ℕ) → IsFlow harts F → IsFlow harts G
  flow_without harts flow = fewer_arcs harts G F same (λ v k w l a. (arc_on v k w l a).0) flow

  module _ (harts : ℕ) (flow : IsFlow harts F) (clock : ℕ → ℕ) (is : IsClock (Into G) h m clock) where
    source : (u < harts) × (u ≡ h → ⊥) × (1 ≤ n)
    source = let r = flow.arcs (length g) h m x x_end u n has in (r.0, r.1, r.2)

    pub known_spare : n ≤ clock u → IsSpare F u n h m
    known_spare l = spare_of (⊎_elim (λ (t : (u ≡ h) × (n ≡ m)). absurd (source.1 t.0)) (λ (p : Path (Into G) u n h m). p) (is.told u n source.2 l))

    pub spare_known : IsSpare F u n h m → n ≤ clock u
    spare_known p = is.all u n (inr (of_spare p))

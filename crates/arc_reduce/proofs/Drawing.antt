-- The candidates that a reduced log keeps as arcs, and the pairs that they order.
use Rattle.std.proofs.Common.{◌≡◌, ◌↔◌, ℕ, ◌≤◌, inl, inr, ⊎_elim, true, false, IsTrue, List, Option, Some, None, refl, sym, ap, ◌∙◌, subst, arith}
use mathlib.Core.Logic.{dite}
use native.Mathlib.Decide.{ℕ_discrete}
use Rattle.pl_event.specs.declared.event.Event.{Event}
use Rattle.pl_event.specs.declared.event.Kind.{Kind}
use Rattle.pl_event.specs.declared.event.Kind.TheVariants.{Ld, St, Op, Mv, Im, Br, Jr, Al, Fr, Bf, Mp, Um, Rd, Wr, Ex, Ft}
use Rattle.pl_event.specs.declared.log.Line.{Line}
use Rattle.pl_event.specs.declared.log.Record.TheVariants as entry
use Rattle.pl_event.specs.Alerts.{is_alert_kind}
use Rattle.pl_event.specs.Candidates.{Shares, IsCandidate, IntoAll, IsImpliedArc}
use Rattle.pl_event.specs.Conflicts.{Access, access_of, ShareBlock, IsPair}
use Rattle.pl_event.specs.Edges.{IsArc, IsNotice, IsAfter, Into, IsFlow, arc_of, notice_of}
use Rattle.pl_event.specs.Needs.{IsMost}
use Rattle.pl_event.specs.Graph.{Path, Without, one, more}
use Rattle.pl_event.specs.Records.{IsEvent, IsRecord}
use Rattle.pl_event.specs.Runs.{IsAlert}
use Rattle.pl_event.proofs.Noticed.{own_path}
use Rattle.pl_event.proofs.Paths.{lifted}
use Rattle.pl_event.proofs.Places.{one_place}
use Rattle.arc_reduce.specs.Drawn.{IsDrawn, NameAlerts}
use Rattle.arc_reduce.specs.Reduction.{records_in, IntoBut, IsSpare, IsReduced}
use Rattle.arc_reduce.proofs.Same.{paths_back}
use Rattle.arc_reduce.proofs.Matching.{notice_same, after_same, event_same}

module _ (size : ℕ) (g f : List Line) (same : records_in g ≡ records_in f) where
  shares_same : (u n h m : ℕ) → Shares size g u n h m → Shares size f u n h m
  shares_same u n h m s = record {
    i = s.i;
    j = s.j;
    a = s.a;
    b = s.b;
    pair = record { before = s.pair.before; first = event_same g f same s.i n s.a s.pair.first; second = event_same g f same s.j m s.b s.pair.second; apart = s.pair.apart };
    first = s.first;
    second = s.second;
    block = s.block;
  }

module _ (size : ℕ) (g f : List Line) (same : records_in g ≡ records_in f) where
  pub candidate_same : (u n h m : ℕ) → IsCandidate size g u n h m → IsCandidate size f u n h m
  candidate_same u n h m c = (shares_same size g f same u n h m c.0, λ k s. c.1 k (shares_same size f g (sym same) u k h m s))

module _ (size : ℕ) (f : List Line) (drawn : IsDrawn size f) where
  candidate_of : (u n h m : ℕ) → IsArc f u n h m → IsCandidate size f u n h m
  candidate_of u n h m a = subst (IsMost (λ k. Shares size f u k h m)) a.3 (drawn a.0 h m a.1 a.2 u)

  -- a record that shares a block is not after the source of an arc
  pub shared_arc : (u n h m : ℕ) → Shares size f u n h m → (k : ℕ) × (n ≤ k) × IsArc f u k h m
  shared_arc u n h m s = by (arc_of s.pair.second.0 u) refl
    where
      is : IsRecord f s.j h m s.pair.second.0
      is = subst (λ (z : ℕ). IsRecord f s.j z m s.pair.second.0) s.second s.pair.second.1

      by : (o : Option ℕ) → arc_of s.pair.second.0 u ≡ o → (k : ℕ) × (n ≤ k) × IsArc f u k h m
      by None e = absurd (subst (IsMost (λ k. Shares size f u k h m)) e (drawn s.j h m s.pair.second.0 is u) n s)
      by (Some k) e = (k, (subst (IsMost (λ k. Shares size f u k h m)) e (drawn s.j h m s.pair.second.0 is u)).1 n s, (s.j, s.pair.second.0, is, e))

  arc_to : (u n h m : ℕ) → IsCandidate size f u n h m → IsArc f u n h m
  arc_to u n h m c =
      let t = shared_arc u n h m c.0 in
      let up : n ≤ t.0 = t.1 in
      let down : t.0 ≤ n = c.1 t.0 (candidate_of u t.0 h m t.2).0 in
      subst (λ (z : ℕ). IsArc f u z h m) (let e : t.0 ≡ n = omega arith in e) t.2

  pub drawn_arc : (u n h m : ℕ) → IsArc f u n h m ↔ IsCandidate size f u n h m
  drawn_arc u n h m = (candidate_of u n h m, arc_to u n h m)

  pub shared_path : (u n h m : ℕ) → Shares size f u n h m → Path (Into f) u n h m
  shared_path u n h m s =
      let t = shared_arc u n h m s in
      let le : n ≤ t.0 = t.1 in
      dite (ℕ_discrete n t.0)
      (λ e. one (inr (inl (subst (λ (z : ℕ). IsArc f u z h m) (sym e) t.2))))
      (λ ne. more (own_path (Into f) u n t.0 (let o : n ≡ t.0 → ⊥ = ne in omega arith)) (inr (inl t.2)))

-- an alert event is no access
no_alert : (size : ℕ) (k : Kind) (o : Option Access) → IsTrue (is_alert_kind k) → ShareBlock (access_of size k) o → ⊥
no_alert size (Ld width rd rb addr) o t s = absurd (let e : false ≡ true = t in cc)
no_alert size (St width rv rb addr) o t s = absurd (let e : false ≡ true = t in cc)
no_alert size (Op rd r1 r2) o t s = s
no_alert size (Mv rd rs) o t s = s
no_alert size (Im rd) o t s = s
no_alert size (Br r1 r2) o t s = s
no_alert size (Jr rd rs) o t s = s
no_alert size (Al addr len) o t s = s
no_alert size (Fr addr len) o t s = s
no_alert size (Bf addr) o t s = s
no_alert size (Mp page count) o t s = s
no_alert size (Um page count) o t s = s
no_alert size (Rd addr len) o t s = s
no_alert size (Wr addr len) o t s = s
no_alert size Ex o t s = s
no_alert size (Ft cause addr) o t s = s

module _ (size harts : ℕ) (g f : List Line) (flow : IsFlow harts f) (drawn : IsDrawn size f) (alerts : NameAlerts f) (reduced : IsReduced g f) where
  back : records_in f ≡ records_in g
  back = sym reduced.records

  module _ (u n h m : ℕ) (c : IsCandidate size f u n h m) where
    -- the source is an event
    source : IsEvent f c.0.i n c.0.a
    source = c.0.pair.first

    source_at : IsRecord f c.0.i u n source.0
    source_at = subst (λ (z : ℕ). IsRecord f c.0.i z n source.0) c.0.first source.1

    no_notice : IsNotice f u n h m → ⊥
    no_notice a =
        let t = one_place f u n a.0 c.0.i a.1 source.0 a.2 source_at in
        let e : notice_of u h m ≡ entry.Event c.0.a = sym a.3 ∙ (ap (λ (z : Line). z.what) t.1 ∙ source.2) in
        absurd cc

    no_after : IsAfter f u n h m → ⊥
    no_after a =
        let alert : IsAlert f u n = alerts h a.2 u n a.5 in
        let there : IsRecord f alert.0 u n alert.2.0 = subst (λ (z : ℕ). IsRecord f alert.0 z n alert.2.0) alert.3 alert.2.1 in
        let t = one_place f u n alert.0 c.0.i alert.2.0 source.0 there source_at in
        let e : entry.Event alert.1 ≡ entry.Event c.0.a = sym alert.2.2 ∙ (ap (λ (z : Line). z.what) t.1 ∙ source.2) in
        let k : alert.1 ≡ c.0.a = cc in
        no_alert size c.0.a.kind (access_of size c.0.b.kind) (subst (λ (z : Event). IsTrue (is_alert_kind z.kind)) k alert.4) c.0.block

    differs_notice : (v k w l : ℕ) → IsNotice f v k w l → (v ≡ u) × (k ≡ n) × (w ≡ h) × (l ≡ m) → ⊥
    differs_notice v k w l a s = no_notice (subst (λ (z : ℕ × ℕ × ℕ × ℕ). IsNotice f z.0 z.1 z.2 z.3) (λ d. (s.0 d, s.1 d, s.2 d, s.3 d)) a)

    differs_after : (v k w l : ℕ) → IsAfter f v k w l → (v ≡ u) × (k ≡ n) × (w ≡ h) × (l ≡ m) → ⊥
    differs_after v k w l a s = no_after (subst (λ (z : ℕ × ℕ × ℕ × ℕ). IsAfter f z.0 z.1 z.2 z.3) (λ d. (s.0 d, s.1 d, s.2 d, s.3 d)) a)

    to_all : (v k w l : ℕ) → IntoBut f u n h m v k w l → Without (IntoAll size g) u n h m v k w l
    to_all v k w l (inl a) = (inl (candidate_same size f g back v k w l ((drawn_arc size f drawn v k w l).0 a.0)), a.1)
    to_all v k w l (inr (inl a)) = (inr (inl (notice_same f g back v k w l a)), differs_notice v k w l a)
    to_all v k w l (inr (inr a)) = (inr (inr (after_same f g back v k w l a)), differs_after v k w l a)

    from_all : (v k w l : ℕ) → Without (IntoAll size g) u n h m v k w l → IntoBut f u n h m v k w l
    from_all v k w l a = by a.0 a.1
      where
        by : IntoAll size g v k w l → ((v ≡ u) × (k ≡ n) × (w ≡ h) × (l ≡ m) → ⊥) → IntoBut f u n h m v k w l
        by (inl e) ne = inl ((drawn_arc size f drawn v k w l).1 (candidate_same size g f reduced.records v k w l e), ne)
        by (inr (inl e)) ne = inr (inl (notice_same g f reduced.records v k w l e))
        by (inr (inr e)) ne = inr (inr (after_same g f reduced.records v k w l e))

    implied_of : IsSpare f u n h m → IsImpliedArc size g u n h m
    implied_of = lifted (IntoBut f u n h m) (Without (IntoAll size g) u n h m) (λ v k w l e. one (inr (to_all v k w l e))) u n h m

    of_implied : IsImpliedArc size g u n h m → IsSpare f u n h m
    of_implied = lifted (Without (IntoAll size g) u n h m) (IntoBut f u n h m) (λ v k w l e. one (inr (from_all v k w l e))) u n h m

  pub least : (u n h m : ℕ) → IsArc g u n h m ↔ (IsCandidate size g u n h m × (IsImpliedArc size g u n h m → ⊥))
  least u n h m = (there, here)
    where
      there : IsArc g u n h m → IsCandidate size g u n h m × (IsImpliedArc size g u n h m → ⊥)
      there a =
          let arc : IsArc f u n h m = reduced.only u n h m a in
          let c : IsCandidate size f u n h m = (drawn_arc size f drawn u n h m).0 arc in (
            candidate_same size f g back u n h m c,
            λ i. ⊎_elim
                (λ (t : IsArc g u n h m × (IsSpare f u n h m → ⊥)). t.1 (of_implied u n h m c i))
                (λ (t : (IsArc g u n h m → ⊥) × IsSpare f u n h m). t.0 a)
                (reduced.arcs u n h m arc),
          )

      here : IsCandidate size g u n h m × (IsImpliedArc size g u n h m → ⊥) → IsArc g u n h m
      here t =
          let c : IsCandidate size f u n h m = candidate_same size g f reduced.records u n h m t.0 in
          ⊎_elim
          (λ (s : IsArc g u n h m × (IsSpare f u n h m → ⊥)). s.0)
          (λ (s : (IsArc g u n h m → ⊥) × IsSpare f u n h m). absurd (t.1 (implied_of u n h m c s.1)))
          (reduced.arcs u n h m ((drawn_arc size f drawn u n h m).1 c))

module _ (size harts : ℕ) (g f : List Line) (flow : IsFlow harts f) (drawn : IsDrawn size f) (reduced : IsReduced g f) where
  pub ordered_accesses : (i j : ℕ) (a : Event) (n : ℕ) (b : Event) (m : ℕ) → IsPair g i j a n b m → ShareBlock (access_of size a.kind) (access_of size b.kind) → Path (Into g) a.hart n b.hart m
  ordered_accesses i j a n b m pair share = paths_back harts g f flow reduced a.hart n b.hart m
      (shared_path size f drawn a.hart n b.hart m (shares_same size g f reduced.records a.hart n b.hart m (record { i = i; j = j; a = a; b = b; pair = pair; first = refl; second = refl; block = share })))

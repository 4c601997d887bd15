-- A reduced log has the paths of the full one.
use Rattle.std.proofs.Common.{◌≡◌, ℕ, zero, suc, ◌+◌, ◌<◌, ◌≤◌, ◌⊎◌, Bool, true, false, inl, inr, ⊎_elim, List, refl, sym, arith}
use Rattle.std.specs.Bool.{MatchBool}
use Rattle.pl_event.specs.declared.event.Event.{Event}
use Rattle.pl_event.specs.declared.log.Line.{Line}
use Rattle.pl_event.specs.Alerts.{is_alert_kind}
use Rattle.pl_event.specs.Conflicts.{AreOrdered, HasNotice, IsNoticed, IsPair}
use Rattle.pl_event.specs.Edges.{IsArc, IsNotice, IsAfter, Into, IsFlow}
use Rattle.pl_event.specs.Graph.{Edge, Path, one, more, IsForward}
use Rattle.pl_event.specs.Records.{line_number}
use Rattle.pl_event.proofs.Edges.{forward}
use Rattle.pl_event.proofs.Paths.{joined, ahead, lifted}
use Rattle.arc_reduce.specs.Reduction.{records_in, IntoBut, IsSpare, IsReduced}
use Rattle.arc_reduce.proofs.Matching.{notice_same, after_same, event_same, fewer_arcs}

-- each edge of G is a path of H, or a path of G and an edge of G make a longer way
module _ (G : ℕ → ℕ → ℕ → ℕ → Type 0) (place : ℕ → ℕ → ℕ) (fwd : IsForward G place) (H : ℕ → ℕ → ℕ → ℕ → Type 0)
    (kept : (u n h m : ℕ) → G u n h m → Path H u n h m ⊎ ((v : ℕ) × (k : ℕ) × Path G u n v k × Edge G v k h m)) where
  by_more : (d u n v k h m : ℕ) → ((a b g l : ℕ) → place g l ≤ place a b + d → Path G a b g l → Path H a b g l)
      → place h m ≤ place u n + suc d → Path G u n v k → Edge G v k h m → Path H u n h m
  by_more d u n v k h m shorter l p e =
      let a : place u n < place v k = ahead G place fwd u n v k p in
      let b : place v k < place h m = fwd v k h m e in
      joined H u n v k h m (shorter u n v k (omega arith) p) (shorter v k h m (omega arith) (one e))

  -- by how far a path leads
  same_within : (d u n h m : ℕ) → place h m ≤ place u n + d → Path G u n h m → Path H u n h m
  same_within zero u n h m l p = absurd (let a : place u n < place h m = ahead G place fwd u n h m p in omega arith)
  same_within (suc d) u n h m l (one (inl e)) = one (inl e)
  same_within (suc d) u n h m l (one (inr e)) = ⊎_elim (λ (t : Path H u n h m). t)
      (λ (t : (v : ℕ) × (k : ℕ) × Path G u n v k × Edge G v k h m). by_more d u n t.0 t.1 h m (same_within d) l t.2 t.3) (kept u n h m e)
  same_within (suc d) u n h m l (more {v = v} {k = k} p e) = by_more d u n v k h m (same_within d) l p e

  pub same_paths : (u n h m : ℕ) → Path G u n h m → Path H u n h m
  same_paths u n h m p = same_within (place h m) u n h m (omega arith) p

-- logs with the same records order the same pairs, where one has the paths of the other
module _ (g f : List Line) (same : records_in g ≡ records_in f) (paths : (u n h m : ℕ) → Path (Into g) u n h m → Path (Into f) u n h m) where
  has_notice : (h u n : ℕ) → HasNotice g h u n → HasNotice f h u n
  has_notice h u n t = (t.0, notice_same g f same h t.0 u n t.1)

  noticed : (a : Event) (n : ℕ) (b : Event) (m : ℕ) → IsNoticed g a n b m → IsNoticed f a n b m
  noticed a n b m = by (is_alert_kind a.kind)
    where
      by : (s : Bool) → MatchBool s (HasNotice g b.hart a.hart n) (HasNotice g a.hart b.hart m) → MatchBool s (HasNotice f b.hart a.hart n) (HasNotice f a.hart b.hart m)
      by true t = has_notice b.hart a.hart n t
      by false t = has_notice a.hart b.hart m t

  pair_back : (i j : ℕ) (a : Event) (n : ℕ) (b : Event) (m : ℕ) → IsPair f i j a n b m → IsPair g i j a n b m
  pair_back i j a n b m p = record { before = p.before; first = event_same f g (sym same) i n a p.first; second = event_same f g (sym same) j m b p.second; apart = p.apart }

  pub ordered_same : (size upto : ℕ) → AreOrdered size g upto → AreOrdered size f upto
  ordered_same size upto o = record {
    accesses = λ i j a n b m low pair share. paths a.hart n b.hart m (o.accesses i j a n b m low (pair_back i j a n b m pair) share);
    alerts = λ i j a n b m low pair meet. noticed a n b m (o.alerts i j a n b m low (pair_back i j a n b m pair) meet);
  }

module _ (harts : ℕ) (g f : List Line) (flow : IsFlow harts f) (reduced : IsReduced g f) where
  pub flow_reduced : IsFlow harts g
  flow_reduced = fewer_arcs harts g f reduced.records reduced.only flow

  into_full : (u n h m : ℕ) → Into g u n h m → Into f u n h m
  into_full u n h m (inl a) = inl (reduced.only u n h m a)
  into_full u n h m (inr (inl a)) = inr (inl (notice_same g f reduced.records u n h m a))
  into_full u n h m (inr (inr a)) = inr (inr (after_same g f reduced.records u n h m a))

  by_notice : (u n h m : ℕ) → IsNotice f u n h m ⊎ IsAfter f u n h m → Into g u n h m
  by_notice u n h m (inl a) = inr (inl (notice_same f g (sym reduced.records) u n h m a))
  by_notice u n h m (inr a) = inr (inr (after_same f g (sym reduced.records) u n h m a))

  more_edges : (a b c d v k w l : ℕ) → IntoBut f a b c d v k w l → Into f v k w l
  more_edges a b c d v k w l (inl e) = inl e.0
  more_edges a b c d v k w l (inr e) = inr e

  more_edge : (a b c d v k w l : ℕ) → Edge (IntoBut f a b c d) v k w l → Edge (Into f) v k w l
  more_edge a b c d v k w l (inl s) = inl s
  more_edge a b c d v k w l (inr e) = inr (more_edges a b c d v k w l e)

  split : (u n h m : ℕ) → IsSpare f u n h m → Path (Into g) u n h m ⊎ ((v : ℕ) × (k : ℕ) × Path (Into f) u n v k × Edge (Into f) v k h m)
  split u n h m (one (inl s)) = inl (one (inl s))
  split u n h m (one (inr (inl w))) = absurd (w.1 (refl, refl, refl, refl))
  split u n h m (one (inr (inr t))) = inl (one (inr (by_notice u n h m t)))
  split u n h m (more {v = v} {k = k} p e) = inr (v, k, lifted (IntoBut f u n h m) (Into f) (λ a b c d x. one (inr (more_edges u n h m a b c d x))) u n v k p, more_edge u n h m v k h m e)

  kept_edge : (u n h m : ℕ) → Into f u n h m → Path (Into g) u n h m ⊎ ((v : ℕ) × (k : ℕ) × Path (Into f) u n v k × Edge (Into f) v k h m)
  kept_edge u n h m (inl a) = ⊎_elim
      (λ (t : IsArc g u n h m × (IsSpare f u n h m → ⊥)). inl (one (inr (inl t.0))))
      (λ (t : (IsArc g u n h m → ⊥) × IsSpare f u n h m). split u n h m t.1)
      (reduced.arcs u n h m a)
  kept_edge u n h m (inr t) = inl (one (inr (by_notice u n h m t)))

  pub paths_on : (u n h m : ℕ) → Path (Into g) u n h m → Path (Into f) u n h m
  paths_on = lifted (Into g) (Into f) (λ u n h m e. one (inr (into_full u n h m e)))

  pub paths_back : (u n h m : ℕ) → Path (Into f) u n h m → Path (Into g) u n h m
  paths_back = same_paths (Into f) (line_number f) (forward harts f flow) (Into g) kept_edge

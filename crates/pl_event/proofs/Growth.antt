-- A log that grows: its first records keep their edges, and so their paths and clocks.
use Rattle.std.proofs.Common.{◌≡◌, ◌≢◌, ⊎_elim, ℕ, zero, suc, ◌+◌, ◌<◌, ◌≤◌, ◌++◌, List, [], ◌∷◌, length, refl, sym, ap, subst, ◌∙◌, inl, inr, arith, if◌then◌else◌}
use mathlib.Core.Logic.{dite}
use native.Mathlib.Decide.{dec_le}
use lib.ListN.{get_elem?}
use Rattle.pl_event.specs.declared.log.Line.{Line}
use Rattle.pl_event.specs.Edges.{Into, IsFlow, IsNotice}
use Rattle.pl_event.specs.Graph.{Edge, Path, one, more, IsClock}
use Rattle.pl_event.specs.Numbers.{is_of}
use Rattle.pl_event.specs.Records.{records_before, IsRecord, line_number}
use Rattle.pl_event.proofs.Edges.{forward, source_before}
use Rattle.pl_event.proofs.Places.{line_number_zero, inside, before_up, record_at}

-- Two graphs that have the same edges to the records of a part have the same paths to them.

pub agree : (G H : ℕ → ℕ → ℕ → ℕ → Type 0) (In : ℕ → ℕ → Type 0)
    → ((u n h m : ℕ) → In h m → Edge G u n h m → Edge H u n h m × In u n)
    → (u n h m : ℕ) → In h m → Path G u n h m → Path H u n h m
agree G H In same u n h m x (one e) = one (same u n h m x e).0
agree G H In same u n h m x (more {v = v} {k = k} p e) = let t = same v k h m x e in more (agree G H In same u n v k t.1 p) t.0

pub clock_agrees : (G H : ℕ → ℕ → ℕ → ℕ → Type 0) (In : ℕ → ℕ → Type 0)
    → ((u n h m : ℕ) → In h m → Edge G u n h m → Edge H u n h m × In u n)
    → ((u n h m : ℕ) → In h m → Edge H u n h m → Edge G u n h m × In u n)
    → (h m : ℕ) (v : ℕ → ℕ) → In h m → IsClock G h m v → IsClock H h m v
clock_agrees G H In f b h m v x c = record {
  told = λ u n some l. ⊎_elim (λ (s : (u ≡ h) × (n ≡ m)). inl s) (λ (p : Path G u n h m). inr (agree G H In f u n h m x p)) (c.told u n some l);
  all = λ u n r. ⊎_elim (λ (s : (u ≡ h) × (n ≡ m)). c.all u n (inl s)) (λ (p : Path H u n h m). c.all u n (inr (agree H G In b u n h m x p))) r;
}

-- A longer log

before_first : (g e : List Line) (h i : ℕ) → i ≤ length g → records_before h (g ++ e) i ≡ records_before h g i
before_first [] [] h i l = refl
before_first [] (x ∷ e) h zero l = refl
before_first [] (x ∷ e) h (suc i) l = absurd (omega arith)
before_first (y ∷ g) e h zero l = refl
before_first (y ∷ g) e h (suc i) l = ap (λ (z : ℕ). (if is_of h y then 1 else 0) + z) (before_first g e h i (omega arith))

at_first : (g e : List Line) (i : ℕ) → i < length g → get_elem? (g ++ e) i ≡ get_elem? g i
at_first [] e i l = absurd (omega arith)
at_first (y ∷ g) e zero l = refl
at_first (y ∷ g) e (suc i) l = at_first g e i (omega arith)

pub record_on : (g e : List Line) (i h m : ℕ) (l : Line) → IsRecord g i h m l → IsRecord (g ++ e) i h m l
record_on g e i h m l is =
    let low : i < length g = inside g i l is.at in
    record { at = at_first g e i low ∙ is.at; hart = is.hart; number = ap (λ (z : ℕ). z + 1) (before_first g e h i (omega arith)) ∙ is.number }

pub record_back : (g e : List Line) (i h m : ℕ) (l : Line) → i < length g → IsRecord (g ++ e) i h m l → IsRecord g i h m l
record_back g e i h m l low is = record { at = sym (at_first g e i low) ∙ is.at; hart = is.hart; number = ap (λ (z : ℕ). z + 1) (sym (before_first g e h i (omega arith))) ∙ is.number }

-- a record of the longer log whose number the shorter one has is in the shorter one
pub record_low : (g e : List Line) (i h m : ℕ) (l : Line) → m ≤ records_before h g (length g) → IsRecord (g ++ e) i h m l → i < length g
record_low g e i h m l le is = dite (dec_le (suc i) (length g))
    (λ low. low)
    (λ no. let high : length g ≤ i = omega arith in
    let a : records_before h (g ++ e) (length g) ≡ records_before h g (length g) = before_first g e h (length g) (omega arith) in
    let b : records_before h (g ++ e) (length g) ≤ records_before h (g ++ e) i = before_up (g ++ e) (length g) i h high in
    let c : records_before h (g ++ e) i + 1 ≡ m = is.number in
    absurd (omega arith))

-- the first lines keep what arcs and notices keep
pub flow_first : (harts : ℕ) (g e : List Line) → IsFlow harts (g ++ e) → IsFlow harts g
flow_first harts g e flow = record {
  within = λ i h m line is. flow.within i h m line (record_on g e i h m line is);
  arcs = λ i h m line is u n arc. subst (λ (z : ℕ). (u < harts) × (u ≢ h) × (1 ≤ n) × (n ≤ z)) (same u i h m line is) (flow.arcs i h m line (record_on g e i h m line is) u n arc);
  notices = λ i h m line is u n told. subst (λ (z : ℕ). (u < harts) × (u ≢ h) × (z < n)) (same u i h m line is) (flow.notices i h m line (record_on g e i h m line is) u n told);
  closed = λ i h m line is u n told. subst (λ (z : ℕ). n ≤ z) (same u i h (m + 1) line is)
      (flow.closed i h m line (record_on g e i h (m + 1) line is) u n (told.0, told.1, record_on g e told.0 h m told.1 told.2, told.3));
}
  where
    same : (u i h m : ℕ) (line : Line) → IsRecord g i h m line → records_before u (g ++ e) i ≡ records_before u g i
    same u i h m line is = before_first g e u i (let low : i < length g = inside g i line is.at in omega arith)

module _ (harts : ℕ) (g e : List Line) (flow' : IsFlow harts (g ++ e)) where
  flow : IsFlow harts g
  flow = flow_first harts g e flow'

  abbrev pub In : ℕ → ℕ → Type 0
  In h m = m ≤ records_before h g (length g)

  note_on : (h m u n : ℕ) → IsNotice g h m u n → IsNotice (g ++ e) h m u n
  note_on h m u n a = (a.0, a.1, record_on g e a.0 h m a.1 a.2, a.3)

  note_back : (h m u n : ℕ) → In h m → IsNotice (g ++ e) h m u n → IsNotice g h m u n
  note_back h m u n x a = (a.0, a.1, record_back g e a.0 h m a.1 (record_low g e a.0 h m a.1 x a.2) a.2, a.3)

  -- what an edge of a log to a record of it comes from
  source_in : (g : List Line) → IsFlow harts g → (u n h m : ℕ) → 1 ≤ m → m ≤ records_before h g (length g) → Into g u n h m → n ≤ records_before u g (length g)
  source_in g flow u n h m least x edge =
      let t = record_at g (length g) h m least x in
      let s : n ≤ records_before u g t.0 = source_before harts g flow t.0 h m u n t.1 t.3 edge in
      let up : records_before u g t.0 ≤ records_before u g (length g) = before_up g t.0 (length g) u (let b : t.0 < length g = t.2 in omega arith) in
      omega arith

  into_on : (u n h m : ℕ) → Into g u n h m → Into (g ++ e) u n h m
  into_on u n h m (inl a) = inl (a.0, a.1, record_on g e a.0 h m a.1 a.2, a.3)
  into_on u n h m (inr (inl a)) = inr (inl (note_on u n h m a))
  into_on u n h m (inr (inr a)) = inr (inr (a.0, a.1, a.2, record_on g e a.0 h m a.1 a.3, a.4, note_on h a.2 u n a.5))

  no_edge_to_zero : (g : List Line) → IsFlow harts g → (u n h : ℕ) → Edge (Into g) u n h 0 → ⊥
  no_edge_to_zero g flow u n h edge = let f : line_number g u n < line_number g h 0 = forward harts g flow u n h 0 edge in let z : line_number g h 0 ≡ 0 = line_number_zero g h in omega arith

  edge_on : (u n h m : ℕ) → In h m → Edge (Into g) u n h m → Edge (Into (g ++ e)) u n h m × In u n
  edge_on u n h m x (inl s) = (inl s, (let c : n + 1 ≡ m = s.1 in let l : m ≤ records_before h g (length g) = x in let same : records_before u g (length g) ≡ records_before h g (length g) = ap (λ (z : ℕ). records_before z g (length g)) s.0 in omega arith))
  edge_on u n h zero x (inr a) = absurd (no_edge_to_zero g flow u n h (inr a))
  edge_on u n h (suc m) x (inr a) = (inr (into_on u n h (suc m) a), source_in g flow u n h (suc m) (omega arith) x a)

  -- an edge of the longer log to a record of the shorter one comes from a record of the shorter one
  back_in : (u n h m : ℕ) → 1 ≤ m → In h m → Into (g ++ e) u n h m → In u n
  back_in u n h m least x a =
      let t = record_at g (length g) h m least x in
      let low : t.0 < length g = t.2 in
      let s : n ≤ records_before u (g ++ e) t.0 = source_before harts (g ++ e) flow' t.0 h m u n t.1 (record_on g e t.0 h m t.1 t.3) a in
      let same : records_before u (g ++ e) t.0 ≡ records_before u g t.0 = before_first g e u t.0 (omega arith) in
      let up : records_before u g t.0 ≤ records_before u g (length g) = before_up g t.0 (length g) u (omega arith) in
      omega arith

  edge_back : (u n h m : ℕ) → In h m → Edge (Into (g ++ e)) u n h m → Edge (Into g) u n h m × In u n
  edge_back u n h m x (inl s) = (inl s, (let c : n + 1 ≡ m = s.1 in let l : m ≤ records_before h g (length g) = x in let same : records_before u g (length g) ≡ records_before h g (length g) = ap (λ (z : ℕ). records_before z g (length g)) s.0 in omega arith))
  edge_back u n h zero x (inr a) = absurd (no_edge_to_zero (g ++ e) flow' u n h (inr a))
  edge_back u n h (suc m) x (inr (inl a)) = (inr (inl (a.0, a.1, record_back g e a.0 h (suc m) a.1 (record_low g e a.0 h (suc m) a.1 x a.2) a.2, a.3)), back_in u n h (suc m) (omega arith) x (inl a))
  edge_back u n h (suc m) x (inr (inr (inl a))) = let s : In u n = back_in u n h (suc m) (omega arith) x (inr (inl a)) in (inr (inr (inl (note_back u n h (suc m) s a))), s)
  edge_back u n h (suc m) x (inr (inr (inr a))) = (
    inr (inr (inr (
      a.0,
      a.1,
      a.2,
      record_back g e a.0 h (suc m) a.1 (record_low g e a.0 h (suc m) a.1 x a.3) a.3,
      a.4,
      note_back h a.2 u n (let c : a.2 + 1 ≡ suc m = a.4 in let l : suc m ≤ records_before h g (length g) = x in let r : a.2 ≤ records_before h g (length g) = omega arith in r) a.5,
    ))),
    back_in u n h (suc m) (omega arith) x (inr (inr a)),
  )

  pub path_on : (u n h m : ℕ) → In h m → Path (Into g) u n h m → Path (Into (g ++ e)) u n h m
  path_on = agree (Into g) (Into (g ++ e)) In edge_on

  pub path_back : (u n h m : ℕ) → In h m → Path (Into (g ++ e)) u n h m → Path (Into g) u n h m
  path_back = agree (Into (g ++ e)) (Into g) In edge_back

  pub clock_on : (h m : ℕ) (v : ℕ → ℕ) → In h m → IsClock (Into g) h m v → IsClock (Into (g ++ e)) h m v
  clock_on = clock_agrees (Into g) (Into (g ++ e)) In edge_on edge_back

  pub clock_back : (h m : ℕ) (v : ℕ → ℕ) → In h m → IsClock (Into (g ++ e)) h m v → IsClock (Into g) h m v
  clock_back = clock_agrees (Into (g ++ e)) (Into g) In edge_back edge_on

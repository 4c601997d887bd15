-- The clock of a record joins those of the record before it in its hart and of the records that it needs.
use Rattle.std.proofs.Common.{◌≡◌, ℕ, zero, suc, ◌+◌, ◌<◌, ◌≤◌, ◌⊎◌, List, slice_index_or, Some, None, refl, sym, ◌∙◌, subst, inl, inr, ⊎_elim, arith, lt_of_not-le}
use mathlib.Core.Logic.{dite}
use native.Mathlib.Decide.{ℕ_discrete, dec_le}
use Rattle.pl_event.specs.declared.log.Line.{Line}
use Rattle.pl_event.specs.Edges.{Into, IsFlow}
use Rattle.pl_event.specs.Graph.{Edge, Path, one, more, Reach, IsClock}
use Rattle.pl_event.specs.Heads.{IsNext}
use Rattle.pl_event.specs.Needs.{need_of, needs_of, IsNeed}
use Rattle.pl_event.specs.Records.{records_before, line_number}
use Rattle.pl_event.proofs.Edges.{forward, source_before}
use Rattle.pl_event.proofs.Noticed.{own_path, path_on}
use Rattle.pl_event.proofs.Paths.{ahead}
use Rattle.pl_event.proofs.Places.{line_number_zero}
use Rattle.pl_event.proofs.Sources.{need_edge, edge_need}
use Rattle.log_clocks.specs.inner.Joins.{IsJoin}

module _ (G : ℕ → ℕ → ℕ → ℕ → Type 0) where
  -- what reaches the source of an edge reaches its end
  on_by : (u n v k h m : ℕ) → Reach G u n v k → Edge G v k h m → Path G u n h m
  on_by u n v k h m (inl s) e = one (subst (λ (z : ℕ × ℕ). Edge G z.0 z.1 h m) (λ i. (sym s.0 i, sym s.1 i)) e)
  on_by u n v k h m (inr p) e = more p e

  last_edge : (u n h m : ℕ) → Path G u n h m → (v : ℕ) × (k : ℕ) × Reach G u n v k × Edge G v k h m
  last_edge u n h m (one e) = (u, n, inl (refl, refl), e)
  last_edge u n h m (more {v = v} {k = k} p e) = (v, k, inr p, e)

  -- along a hart
  own : (h n m : ℕ) → n ≤ m → Reach G h n h m
  own h n m l = dite (ℕ_discrete n m) (λ e. inl (refl, e)) (λ ne. inr (own_path G h n m (omega arith)))

  later_reach : (u x w k n : ℕ) → k ≤ n → Reach G u x w k → Reach G u x w n
  later_reach u x w k n le (inl s) = subst (λ (z : ℕ × ℕ). Reach G z.0 z.1 w n) (λ i. (sym s.0 i, sym s.1 i)) (own w k n le)
  later_reach u x w k n le (inr p) = inr (path_on G u x w k n le p)

  -- a later record of a hart has the later clock
  clock_up : (w k n : ℕ) (a b : ℕ → ℕ) → k ≤ n → IsClock G w k a → IsClock G w n b → (u : ℕ) → a u ≤ b u
  clock_up w k n a b le x y u = dite (ℕ_discrete (a u) 0)
      (λ z. omega arith)
      (λ nz. y.all u (a u) (later_reach u (a u) w k n le (x.told u (a u) (omega arith) (omega arith))))

-- before the first record of a hart
pub clock_start : (harts : ℕ) (g : List Line) → IsFlow harts g → (h : ℕ) (v : ℕ → ℕ) → ((u : ℕ) → v u ≡ 0) → IsClock (Into g) h 0 v
clock_start harts g flow h v zeros = record {
  told = λ u n some l. absurd (let z : v u ≡ 0 = zeros u in omega arith);
  all = λ u n r. ⊎_elim (λ (s : (u ≡ h) × (n ≡ 0)). omega arith) (λ (p : Path (Into g) u n h 0). absurd (none u n p)) r;
}
  where
    none : (u n : ℕ) → Path (Into g) u n h 0 → ⊥
    none u n p =
        let a : line_number g u n < line_number g h 0 = ahead (Into g) (line_number g) (forward harts g flow) u n h 0 p in
        let z : line_number g h 0 ≡ 0 = line_number_zero g h in
        omega arith

module _ (harts : ℕ) (g : List Line) (flow : IsFlow harts g) where
  -- a hart's record is not after a later one of it
  own_most : (h n m : ℕ) → Reach (Into g) h n h m → n ≤ m
  own_most h n m (inl s) = omega (arith, s.1)
  own_most h n m (inr p) = dite (dec_le n m) (λ le. le)
      (λ no. let less : m < n = lt_of_not-le no in
      let a : line_number g h n < line_number g h m = ahead (Into g) (line_number g) (forward harts g flow) h n h m p in
      let b : line_number g h m < line_number g h n = ahead (Into g) (line_number g) (forward harts g flow) h m h n (own_path (Into g) h m n less) in
      absurd (omega arith))

  -- an edge between harts comes from a hart of the log
  source_hart : (u n h m : ℕ) → Into g u n h m → u < harts
  source_hart u n h m (inl a) = (flow.arcs a.0 h m a.1 a.2 u n a.3).0
  source_hart u n h m (inr (inl a)) = flow.within a.0 u n a.1 a.2
  source_hart u n h m (inr (inr a)) = (flow.notices a.5.0 h a.2 a.5.1 a.5.2 u n a.5.3).0

pub need_at : (g : List Line) (h m w : ℕ) → w < 8 → slice_index_or (needs_of g h m) w None ≡ need_of g w h m
need_at g h m zero l = refl
need_at g h m (suc zero) l = refl
need_at g h m (suc (suc zero)) l = refl
need_at g h m (suc (suc (suc zero))) l = refl
need_at g h m (suc (suc (suc (suc zero)))) l = refl
need_at g h m (suc (suc (suc (suc (suc zero))))) l = refl
need_at g h m (suc (suc (suc (suc (suc (suc zero)))))) l = refl
need_at g h m (suc (suc (suc (suc (suc (suc (suc zero))))))) l = refl
need_at g h m (suc (suc (suc (suc (suc (suc (suc (suc w)))))))) l = absurd (omega arith)

module _ (harts : ℕ) (g : List Line) (flow : IsFlow harts g) (few : harts ≤ 8) (i h : ℕ) (line : Line) (next : IsNext g i h line)
    (t : ℕ → ℕ → ℕ → ℕ) (clocks : (x y : ℕ) → y ≤ records_before x g i → IsClock (Into g) x y (t x y)) where
  abbrev m : ℕ
  m = records_before h g i

  known_source : (w k : ℕ) → Into g w k h (m + 1) → IsClock (Into g) w k (t w k)
  known_source w k e = clocks w k (source_before harts g flow i h (m + 1) w k line next e)

  module _ (start v v' : ℕ → ℕ) (started : (u : ℕ) → (u ≡ h → ⊥) → start u ≡ t h m u) (join : IsJoin (needs_of g h (m + 1)) 8 t start v)
      (here : v' h ≡ m + 1) (others : (u : ℕ) → (u ≡ h → ⊥) → v' u ≡ v u) where
    is_need : (w k : ℕ) → w < 8 → slice_index_or (needs_of g h (m + 1)) w None ≡ Some k → IsNeed g w k h (m + 1)
    is_need w k low e = sym (need_at g h (m + 1) w low) ∙ e

    told : (u n : ℕ) → 1 ≤ n → n ≤ v' u → Reach (Into g) u n h (m + 1)
    told u n some l = dite (ℕ_discrete u h)
        (λ e. subst (λ (z : ℕ). Reach (Into g) z n h (m + 1)) (sym e) (own (Into g) h n (m + 1) (let s : n ≤ v' h = subst (λ (z : ℕ). n ≤ v' z) e l in let o : v' h ≡ m + 1 = here in omega arith)))
        (λ ne. by ne (join.from u n (let o : v' u ≡ v u = others u ne in omega arith)))
      where
        by : (u ≡ h → ⊥) → (n ≤ start u) ⊎ ((w : ℕ) × (k : ℕ) × (w < 8) × (slice_index_or (needs_of g h (m + 1)) w None ≡ Some k) × (n ≤ t w k u)) → Reach (Into g) u n h (m + 1)
        by ne (inl s) = let o : start u ≡ t h m u = started u ne in inr (on_by (Into g) u n h m h (m + 1) ((clocks h m (omega arith)).told u n some (omega arith)) (inl (refl, refl)))
        by ne (inr s) =
            let edge : Into g s.0 s.1 h (m + 1) = need_edge harts g flow s.0 s.1 h (m + 1) (is_need s.0 s.1 s.2 s.3) in
            inr (on_by (Into g) u n s.0 s.1 h (m + 1) ((known_source s.0 s.1 edge).told u n some s.4) (inr edge))

    by_edge : (u n w k : ℕ) → (u ≡ h → ⊥) → Reach (Into g) u n w k → Edge (Into g) w k h (m + 1) → n ≤ v' u
    by_edge u n w k ne r (inl s) =
        let e : (w ≡ h) × (k ≡ m) = (s.0, (let o : k + 1 ≡ m + 1 = s.1 in omega arith)) in
        let l : n ≤ t h m u = (clocks h m (omega arith)).all u n (subst (λ (z : ℕ × ℕ). Reach (Into g) u n z.0 z.1) (λ d. (e.0 d, e.1 d)) r) in
        let a : start u ≡ t h m u = started u ne in
        let b : start u ≤ v u = join.before u in
        let c : v' u ≡ v u = others u ne in
        omega arith
    by_edge u n w k ne r (inr e) =
        let need = edge_need harts g flow w k h (m + 1) e in
        let low : w < harts = source_hart harts g flow w k h (m + 1) e in
        let l : n ≤ t w k u = (known_source w k e).all u n r in
        let up : t w k u ≤ t w need.0 u = clock_up (Into g) w k need.0 (t w k) (t w need.0) need.1 (known_source w k e) (known_source w need.0 (need_edge harts g flow w need.0 h (m + 1) need.2)) u in
        let s : t w need.0 u ≤ v u = join.sources w need.0 (omega arith) (need_at g h (m + 1) w (omega arith) ∙ need.2) u in
        let c : v' u ≡ v u = others u ne in
        omega arith

    all : (u n : ℕ) → Reach (Into g) u n h (m + 1) → n ≤ v' u
    all u n r = dite (ℕ_discrete u h)
        (λ e. let o : v' h ≡ m + 1 = here in
        let l : n ≤ m + 1 = own_most harts g flow h n (m + 1) (subst (λ (z : ℕ). Reach (Into g) z n h (m + 1)) e r) in
        subst (λ (z : ℕ). n ≤ v' z) (sym e) (omega arith))
        (λ ne. ⊎_elim (λ (s : (u ≡ h) × (n ≡ m + 1)). absurd (ne s.0)) (λ (p : Path (Into g) u n h (m + 1)). let x = last_edge (Into g) u n h (m + 1) p in by_edge u n x.0 x.1 ne x.2 x.3) r)

    pub clock_here : IsClock (Into g) h (m + 1) v'
    clock_here = record { told = told; all = all }

pub same_clock : (G : ℕ → ℕ → ℕ → ℕ → Type 0) (h m : ℕ) (v w : ℕ → ℕ) → ((u : ℕ) → w u ≡ v u) → IsClock G h m v → IsClock G h m w
same_clock G h m v w e c = record {
  told = λ u n some l. c.told u n some (let t : w u ≡ v u = e u in omega arith);
  all = λ u n r. let a : n ≤ v u = c.all u n r in let t : w u ≡ v u = e u in omega arith;
}

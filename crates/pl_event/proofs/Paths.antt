-- Paths, and the two graphs that have the same.
use Rattle.std.proofs.Common.{◌≡◌, ℕ, zero, suc, ◌+◌, ◌-◌, ◌<◌, ◌≤◌, List, refl, sym, subst, inl, inr, arith}
use mathlib.Core.Logic.{dite}
use native.Mathlib.Decide.{ℕ_discrete}
use Rattle.pl_event.specs.declared.log.Line.{Line}
use Rattle.pl_event.specs.Graph.{Path, one, more, IsForward}
use Rattle.pl_event.specs.Edges.{Into, IsFlow}
use Rattle.pl_event.specs.Needs.{IsNeed}
use Rattle.pl_event.proofs.Sources.{need_edge, edge_need}

pub joined : (G : ℕ → ℕ → ℕ → ℕ → Type 0) (u n v k h m : ℕ) → Path G u n v k → Path G v k h m → Path G u n h m
joined G u n v k h m p (one e) = more p e
joined G u n v k h m p (more q e) = more (joined G u n v k _ _ p q) e

pub lifted : (G H : ℕ → ℕ → ℕ → ℕ → Type 0) → ((u n h m : ℕ) → G u n h m → Path H u n h m) → (u n h m : ℕ) → Path G u n h m → Path H u n h m
lifted G H f u n h m (one (inl e)) = one (inl e)
lifted G H f u n h m (one (inr e)) = f u n h m e
lifted G H f u n h m (more p (inl e)) = more (lifted G H f u n _ _ p) (inl e)
lifted G H f u n h m (more p (inr e)) = joined H u n _ _ h m (lifted G H f u n _ _ p) (f _ _ h m e)

pub ahead : (G : ℕ → ℕ → ℕ → ℕ → Type 0) (place : ℕ → ℕ → ℕ) → IsForward G place → (u n h m : ℕ) → Path G u n h m → place u n < place h m
ahead G place fwd u n h m (one e) = fwd u n h m e
ahead G place fwd u n h m (more {v = v} {k = k} p e) = let a : place u n < place v k = ahead G place fwd u n v k p in let b : place v k < place h m = fwd v k h m e in omega arith

-- along a hart
pub chain : (G : ℕ → ℕ → ℕ → ℕ → Type 0) (h n d : ℕ) → Path G h n h (n + 1 + d)
chain G h n zero = one (inl (refl, omega arith))
chain G h n (suc d) = more (chain G h n d) (inl (refl, omega arith))

module _ (harts : ℕ) (g : List Line) (flow : IsFlow harts g) where
  -- the greatest sources alone make the same paths
  pub by_needs : (u n h m : ℕ) → Path (Into g) u n h m → Path (IsNeed g) u n h m
  by_needs = lifted (Into g) (IsNeed g) one_edge
    where
      from_to : (u n k h m : ℕ) → n ≤ k → IsNeed g u k h m → Path (IsNeed g) u n h m
      from_to u n k h m le need = dite (ℕ_discrete n k)
          (λ e. one (inr (subst (λ (z : ℕ). IsNeed g u z h m) (sym e) need)))
          (λ ne. joined (IsNeed g) u n u k h m (let d : n + 1 + (k - (n + 1)) ≡ k = let o : n ≡ k → ⊥ = ne in omega arith in subst (λ (z : ℕ). Path (IsNeed g) u n u z) d (chain (IsNeed g) u n (k - (n + 1)))) (one (inr need)))

      one_edge : (u n h m : ℕ) → Into g u n h m → Path (IsNeed g) u n h m
      one_edge u n h m e = let t = edge_need harts g flow u n h m e in from_to u n t.0 h m t.1 t.2

  pub of_needs : (u n h m : ℕ) → Path (IsNeed g) u n h m → Path (Into g) u n h m
  of_needs = lifted (IsNeed g) (Into g) (λ u n h m e. one (inr (need_edge harts g flow u n h m e)))

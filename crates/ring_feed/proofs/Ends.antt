-- The rings of a run and their ends, by number.
use Rattle.std.proofs.Common.{◌≡◌, ◌⊎◌, ℕ, zero, suc, ◌+◌, List, [], ◌∷◌, ◌++◌, length, refl, sym, ap, ◌∙◌, inl, inr, ⊎_elim, arith, length-append}
use mathlib.Core.Option.{some, some-injective, some-ne-none}
use lib.ListN.{get_elem?}
use Rattle.stream_ring.specs.declared.ends.Ring.{Ring}
use Rattle.stream_ring.specs.declared.ends.SendPass.{SendPass}
use Rattle.stream_ring.specs.declared.ends.TakePass.{TakePass}
use Rattle.stream_ring.specs.Passes.{IsSendOf, IsTakeOf, offered, taken}
use Rattle.ring_feed.specs.Outlets.{AreRings, AreSends, AreTakes}
use Rattle.ring_feed.proofs.Pairs.{pairs_more}

pub at_end : {A : Type 0} (l : List A) (a b : A) (j : ℕ) → get_elem? (l ++ a ∷ []) j ≡ some b
    → (get_elem? l j ≡ some b) ⊎ ((j ≡ length l) × (a ≡ b))
at_end [] a b zero e = inr (refl, some-injective a b e)
at_end [] a b (suc j) e = absurd (some-ne-none b (sym e))
at_end (x ∷ xs) a b zero e = inl e
at_end (x ∷ xs) a b (suc j) e = ⊎_elim (λ h. inl h) (λ h. inr (ap suc h.0, h.1)) (at_end xs a b j e)

module _ {N : Type 0} where
  pub rings_push : (n : ℕ) (rings : List (Ring N)) (ring : Ring N) → AreRings n rings → ring.hart ≡ n
      → AreRings (n + 1) (rings ++ ring ∷ [])
  rings_push n rings ring are here = record {
    size = let size : length rings ≡ n = are.size in omega (arith, length-append rings (ring ∷ []));
    hart = λ k r at. ⊎_elim (λ (u : get_elem? rings k ≡ some r). are.hart k r u)
        (λ (u : (k ≡ length rings) × (ring ≡ r)). sym (ap (λ (z : Ring N). z.hart) u.1) ∙ (here ∙ (sym are.size ∙ sym u.0)))
        (at_end rings ring r k at);
  }

  pub sends_push : (rings : List (Ring N)) (sends : List (SendPass N)) (ring : Ring N) (send : SendPass N)
      → AreSends rings sends → IsSendOf ring send → offered send ≡ [] → AreSends (rings ++ ring ∷ []) (sends ++ send ∷ [])
  sends_push rings sends ring send are of fresh = record {
    size = let size : length sends ≡ length rings = are.size in
        omega (arith, length-append rings (ring ∷ []), length-append sends (send ∷ []));
    of = pairs_more (λ (r : Ring N) (s : SendPass N). IsSendOf r s × (offered s ≡ [])) rings sends ring send are.size are.of (of, fresh);
  }

  pub takes_push : (rings : List (Ring N)) (takes : List (TakePass N)) (ring : Ring N) (take : TakePass N)
      → AreTakes rings takes → IsTakeOf ring take → taken take ≡ [] → AreTakes (rings ++ ring ∷ []) (takes ++ take ∷ [])
  takes_push rings takes ring take are of fresh = record {
    size = let size : length takes ≡ length rings = are.size in
        omega (arith, length-append rings (ring ∷ []), length-append takes (take ∷ []));
    of = pairs_more (λ (r : Ring N) (t : TakePass N). IsTakeOf r t × (taken t ≡ [])) rings takes ring take are.size are.of (of, fresh);
  }

-- One worker more has had its turn.
use Rattle.std.proofs.Common.{◌≡◌, ◌≢◌, ℕ, zero, suc, ◌+◌, ◌-◌, ◌<◌, ◌≤◌, ◌⊎◌, List, [], ◌∷◌, set, refl, sym, ap, ◌∙◌, subst, arith, inl, inr, ⊎_elim, length-set}
use mathlib.Core.Option.{some, some-injective, some-ne-none}
use lib.ListN.{get_elem?}
use Rattle.atomic_table.proofs.Lists.{at_set, set_here, set_else}
use Rattle.order_core.proofs.Flatten.{inside}
use Rattle.turn_worker.specs.Workers.{WorkerView, size}
use Rattle.turn_worker.specs.Turns.{HasEnded}
use Rattle.lifeguard_crew.specs.declared.round_end.RoundEnd.{RoundEnd}
use Rattle.lifeguard_crew.specs.declared.round_end.RoundEnd.TheVariants.{Moved, Waited, Ended}
use Rattle.lifeguard_crew.specs.inner.Rounds.{left, lasting, IsAtWait, IsTurn, both, IsRoundEnd, IsRound}
use Rattle.lifeguard_crew.proofs.Same.{same_self}

pub left_set : (vs : List WorkerView) (i : ℕ) (v w : WorkerView) → get_elem? vs i ≡ some v
    → left (set vs i w) + (size v - v.taken) ≡ left vs + (size w - w.taken)
left_set [] i v w e = absurd (some-ne-none v (sym e))
left_set (x ∷ vs) zero v w e =
    let same : size x - x.taken ≡ size v - v.taken = ap (λ (z : WorkerView). size z - z.taken) (some-injective x v e) in
    omega arith
left_set (x ∷ vs) (suc i) v w e =
    let rest : left (set vs i w) + (size v - v.taken) ≡ left vs + (size w - w.taken) = left_set vs i v w e in
    omega arith

-- before the first turn
pub no_turn : (vs : List WorkerView) → IsRound 0 vs vs Ended
no_turn vs = record {
  same = same_self vs;
  learnt = λ k v w was now. ap (λ (z : WorkerView). z.seat.learnt) (some-injective w v (sym now ∙ was));
  taken = λ k v w was now.
      let same : w.taken ≡ v.taken = ap (λ (z : WorkerView). z.taken) (some-injective w v (sym now ∙ was)) in
      omega arith;
  fewer = omega arith;
  rest = λ k le. refl;
  end = λ k w lt now. absurd (omega arith);
}

module _ (vs ws : List WorkerView) (i : ℕ) (end : RoundEnd) (o : IsRound i vs ws end) (v w : WorkerView)
    (at : get_elem? ws i ≡ some v) (turn : RoundEnd) (t : IsTurn v w turn) where
  abbrev next : List WorkerView
  next = set ws i w

  -- what holds of each worker that was there, and of the one that had its turn
  each_next : (Q : WorkerView → WorkerView → Type 0) → ((k : ℕ) (a b : WorkerView) → get_elem? vs k ≡ some a
      → get_elem? ws k ≡ some b → Q a b) → ((a : WorkerView) → Q a v → Q a w) → (k : ℕ) (a b : WorkerView)
      → get_elem? vs k ≡ some a → get_elem? next k ≡ some b → Q a b
  each_next Q old step k a b was now = ⊎_elim
      (λ (p : (k ≡ i) × (w ≡ b)).
      let there : get_elem? ws k ≡ some v = subst (λ (z : ℕ). get_elem? ws z ≡ some v) (sym p.0) at in
      subst (Q a) p.1 (step a (old k a v was there)))
      (λ (p : (k ≢ i) × (get_elem? ws k ≡ some b)). old k a b was p.1)
      (at_set ws i k w b now)

  -- the same of those that had their turn
  below : (Q : WorkerView → Type 0) → ((k : ℕ) (b : WorkerView) → k < i → get_elem? ws k ≡ some b → Q b) → Q w
      → (k : ℕ) (b : WorkerView) → k < i + 1 → get_elem? next k ≡ some b → Q b
  below Q old here k b lt now = ⊎_elim
      (λ (p : (k ≡ i) × (w ≡ b)). subst Q p.1 here)
      (λ (p : (k ≢ i) × (get_elem? ws k ≡ some b)). old k b (let n : k ≢ i = p.0 in omega arith) p.1)
      (at_set ws i k w b now)

  less : left next + (size v - v.taken) ≡ left ws + (size w - w.taken)
  less = left_set ws i v w at

  sizes : size w ≡ size v
  sizes = ap size t.same

  no_more : left next ≤ left ws
  no_more = let a : v.taken ≤ w.taken = t.taken in omega (arith, less, sizes)

  fewer_next : v.taken < w.taken → left next < left ws
  fewer_next rose = let a : w.taken ≤ size w = t.within in omega (arith, less, sizes)

  own : get_elem? next i ≡ some w
  own = set_here ws i w (inside ws i v at)

  still : (k : ℕ) × (b : WorkerView) × (k < i) × (get_elem? ws k ≡ some b) × IsAtWait b
      → (k : ℕ) × (b : WorkerView) × (k < i + 1) × (get_elem? next k ≡ some b) × IsAtWait b
  still x =
      let lt : x.0 < i = x.2 in
      (x.0, x.1, omega arith, set_else ws i x.0 w (λ e. omega arith) ∙ x.3, x.4)

  abbrev Rests : WorkerView → Type 0
  Rests b = HasEnded b ⊎ IsAtWait b

end_next : (vs ws : List WorkerView) (i : ℕ) (end : RoundEnd) (o : IsRound i vs ws end) (v w : WorkerView)
    (at : get_elem? ws i ≡ some v) (turn : RoundEnd) (t : IsTurn v w turn)
    → IsRoundEnd (i + 1) vs (set ws i w) (both end turn)
end_next vs ws i Moved o v w at turn t =
    let a : left ws < left vs = o.end in let b = no_more vs ws i Moved o v w at turn t in omega (arith, b)
end_next vs ws i Waited o v w at Moved t =
    let a : left ws ≤ left vs = o.fewer in
    let b = fewer_next vs ws i Waited o v w at Moved t t.end in omega (arith, b)
end_next vs ws i Waited o v w at Waited t = (
  below vs ws i Waited o v w at Waited t (λ b. HasEnded b ⊎ IsAtWait b) o.end.0 (inr t.end),
  still vs ws i Waited o v w at Waited t o.end.1,
)
end_next vs ws i Waited o v w at Ended t = (
  below vs ws i Waited o v w at Ended t (λ b. HasEnded b ⊎ IsAtWait b) o.end.0 (inl t.end),
  still vs ws i Waited o v w at Ended t o.end.1,
)
end_next vs ws i Ended o v w at Moved t =
    let a : left ws ≤ left vs = o.fewer in
    let b = fewer_next vs ws i Ended o v w at Moved t t.end in omega (arith, b)
end_next vs ws i Ended o v w at Waited t = (
  below vs ws i Ended o v w at Waited t (λ b. HasEnded b ⊎ IsAtWait b) (λ k b lt now. inl (o.end k b lt now)) (inr t.end),
  (i, w, omega arith, own vs ws i Ended o v w at Waited t, t.end),
)
end_next vs ws i Ended o v w at Ended t = below vs ws i Ended o v w at Ended t HasEnded o.end t.end

pub one_more : (vs ws : List WorkerView) (i : ℕ) (end : RoundEnd) (o : IsRound i vs ws end) (v w : WorkerView)
    (at : get_elem? ws i ≡ some v) (turn : RoundEnd) (t : IsTurn v w turn)
    → IsRound (i + 1) vs (set ws i w) (both end turn)
one_more vs ws i end o v w at turn t = record {
  same = record {
    size = length-set ws i w ∙ o.same.size;
    each = each_next vs ws i end o v w at turn t (λ a b. lasting b ≡ lasting a) o.same.each (λ a e. t.same ∙ e);
  };
  learnt = each_next vs ws i end o v w at turn t (λ a b. b.seat.learnt ≡ a.seat.learnt) o.learnt (λ a e. t.learnt ∙ e);
  taken = each_next vs ws i end o v w at turn t (λ a b. a.taken ≤ b.taken) o.taken
      (λ a le. let more : v.taken ≤ w.taken = t.taken in omega arith);
  fewer = let a : left ws ≤ left vs = o.fewer in
      let b = no_more vs ws i end o v w at turn t in omega (arith, b);
  rest = λ k le. set_else ws i k w (λ e. omega arith) ∙ o.rest k (omega arith);
  end = end_next vs ws i end o v w at turn t;
}

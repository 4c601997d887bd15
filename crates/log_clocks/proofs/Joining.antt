-- A clock is joined with the clocks of what is needed, hart by hart.
use Rattle.std.proofs.Common.{◌≡◌, ℕ, zero, suc, ◌+◌, ◌<◌, ◌≤◌, ◌⊎◌, List, slice_index_or, max, refl, sym, ◌∙◌, subst, inl, inr, ⊎_elim, arith, lt_of_not-le, Option, Some, None}
use mathlib.Core.Logic.{dite}
use native.Mathlib.Decide.{ℕ_discrete, dec_le}
use Rattle.log_clocks.specs.inner.Joins.{IsJoin, IsClosed}

within_max : (n a b : ℕ) → n ≤ max a b → (n ≤ a) ⊎ (n ≤ b)
within_max n a b l = dite (dec_le n a) (λ (le : n ≤ a). inl le) (λ no. inr (let f : a < n = lt_of_not-le no in omega arith))

module _ (needs : List (Option ℕ)) (t : ℕ → ℕ → ℕ → ℕ) (start : ℕ → ℕ) where
  pub join_start : (v : ℕ → ℕ) → ((u : ℕ) → v u ≡ start u) → IsJoin needs 0 t start v
  join_start v same = record {
    before = λ u. let e : v u ≡ start u = same u in omega arith;
    sources = λ w k low need u. absurd (let l : w < 0 = low in omega arith);
    from = λ u n l. inl (let e : v u ≡ start u = same u in omega arith);
  }

  -- where nothing is needed
  pub join_alone : (b : ℕ) → ((w k : ℕ) → slice_index_or needs w None ≡ Some k → ⊥) → IsJoin needs b t start start
  join_alone b none = record {
    before = λ u. omega arith;
    sources = λ w k low need u. absurd (none w k need);
    from = λ u n l. inl l;
  }

  abbrev From : ℕ → ℕ → ℕ → Type 0
  From b u n = (n ≤ start u) ⊎ ((w : ℕ) × (k : ℕ) × (w < b) × (slice_index_or needs w None ≡ Some k) × (n ≤ t w k u))

  further : (b u n : ℕ) → From b u n → From (b + 1) u n
  further b u n (inl a) = inl a
  further b u n (inr p) = inr (p.0, p.1, (let l : p.0 < b = p.2 in omega arith), p.3, p.4)

  pub join_none : (b : ℕ) (v : ℕ → ℕ) → ((k : ℕ) → slice_index_or needs b None ≡ Some k → ⊥) → IsJoin needs b t start v → IsJoin needs (b + 1) t start v
  join_none b v none j = record {
    before = j.before;
    sources = λ w k low need u. dite (ℕ_discrete w b)
        (λ e. absurd (none k (subst (λ (z : ℕ). slice_index_or needs z None ≡ Some k) e need)))
        (λ ne. j.sources w k (omega arith) need u);
    from = λ u n l. further b u n (j.from u n l);
  }

  one_value : {k y : ℕ} {o : Option ℕ} → o ≡ Some k → o ≡ Some y → k ≡ y
  one_value p q = let s : Some _ ≡ Some _ = sym p ∙ q in cc

  pub join_some : (b x : ℕ) (v v' : ℕ → ℕ) → slice_index_or needs b None ≡ Some x → ((u : ℕ) → v' u ≡ max (v u) (t b x u)) → IsJoin needs b t start v → IsJoin needs (b + 1) t start v'
  join_some b x v v' is more j = record {
    before = λ u. let a : start u ≤ v u = j.before u in let e : v' u ≡ max (v u) (t b x u) = more u in omega arith;
    sources = λ w k low need u. let e : v' u ≡ max (v u) (t b x u) = more u in dite (ℕ_discrete w b)
        (λ same. let num : k ≡ x = one_value (subst (λ (z : ℕ). slice_index_or needs z None ≡ Some k) same need) is in
        subst (λ (z : ℕ × ℕ). t z.0 z.1 u ≤ v' u) (λ i. (sym same i, sym num i)) (omega arith))
        (λ ne. let a : t w k u ≤ v u = j.sources w k (omega arith) need u in omega arith);
    from = λ u n l. let e : v' u ≡ max (v u) (t b x u) = more u in ⊎_elim
        (λ (a : n ≤ v u). further b u n (j.from u n a))
        (λ (a : n ≤ t b x u). inr (b, x, omega arith, is, a))
        (within_max n (v u) (t b x u) (omega arith));
  }

  -- where the clock knows what is needed
  pub join_known : (b x : ℕ) (v : ℕ → ℕ) → b < 8 → slice_index_or needs b None ≡ Some x → IsClosed needs t start → x ≤ v b → IsJoin needs b t start v → IsJoin needs (b + 1) t start v
  join_known b x v low is closed le j = record {
    before = j.before;
    sources = λ w k l need u. dite (ℕ_discrete w b)
        (λ same. let num : k ≡ x = one_value (subst (λ (z : ℕ). slice_index_or needs z None ≡ Some k) same need) is in
        subst (λ (z : ℕ × ℕ). t z.0 z.1 u ≤ v u) (λ i. (sym same i, sym num i)) (all u))
        (λ ne. j.sources w k (omega arith) need u);
    from = λ u n l. further b u n (j.from u n l);
  }
    where
      all : (u : ℕ) → t b x u ≤ v u
      all u = ⊎_elim
          (λ (a : x ≤ start b). let o : t b x u ≤ start u = closed.own b x low is a u in let s : start u ≤ v u = j.before u in omega arith)
          (λ (p : (w : ℕ) × (k : ℕ) × (w < b) × (slice_index_or needs w None ≡ Some k) × (x ≤ t w k b)).
          let up : p.0 < b = p.2 in
          let o : t b x u ≤ t p.0 p.1 u = closed.needed p.0 p.1 b x (omega arith) p.3 low is p.4 u in
          let s : t p.0 p.1 u ≤ v u = j.sources p.0 p.1 p.2 p.3 u in omega arith)
          (j.from b x le)

  -- the join of all that is needed
  pub join_all : (b : ℕ) → (v : ℕ → ℕ) × IsJoin needs b t start v
  join_all zero = (start, join_start start (λ u. refl))
  join_all (suc b) = by (join_all b) (slice_index_or needs b None) refl
    where
      more : (v : ℕ → ℕ) → IsJoin needs (b + 1) t start v → IsJoin needs (suc b) t start v
      more v j = subst (λ (z : ℕ). IsJoin needs z t start v) (let e : b + 1 ≡ suc b = omega arith in e) j

      by : (r : (v : ℕ → ℕ) × IsJoin needs b t start v) (o : Option ℕ) → slice_index_or needs b None ≡ o → (v : ℕ → ℕ) × IsJoin needs (suc b) t start v
      by r None e = (r.0, more r.0 (join_none b r.0 (λ k q. absurd (let s : None ≡ Some k = sym e ∙ q in cc)) r.1))
      by r (Some x) e = (λ u. max (r.0 u) (t b x u), more (λ u. max (r.0 u) (t b x u)) (join_some b x r.0 (λ u. max (r.0 u) (t b x u)) e (λ u. refl) r.1))

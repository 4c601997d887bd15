-- A read that may be made may still be made after other steps, and a state that is not finished can move.
use Rattle.std.proofs.Common.{◌≡◌, ◌≢◌, ℕ, zero, suc, ◌+◌, ◌<◌, ◌≤◌, Bool, true, false, eqb, ◌⊎◌, List, [], ◌∷◌, length, Option, Some, None, refl, sym, ap, ◌∙◌, subst, inl, inr, ⊎_elim, arith, lt_of_not-le, ◌&&◌, if◌then◌else◌}
use mathlib.Core.Option.{Option as Maybe, none, some, some-injective, some-ne-none}
use mathlib.Core.Logic.{dite}
use native.Mathlib.Decide.{ℕ_discrete, dec_le}
use lib.ListN.{get_elem?}
use Rattle.pl_event.specs.declared.log.Line.{Line}
use Rattle.pl_event.specs.Numbers.{hart_of}
use Rattle.pl_event.specs.Records.{records_before, IsRecord}
use Rattle.pl_event.specs.Edges.{Into}
use Rattle.pl_event.specs.Needs.{IsNeed, need_of}
use Rattle.pl_event.proofs.Places.{record_at, inside, before_own, before_up}
use Rattle.pl_event.proofs.Edges.{source_before}
use Rattle.pl_event.proofs.Sources.{need_edge}
use Rattle.order_core.specs.declared.course.Course.{Course}
use Rattle.order_core.specs.declared.course.Operation.{Operation}
use Rattle.order_core.specs.Lanes.{Meets}
use Rattle.order_core.specs.Course.{At, rank, is_write_of, length_of}
use Rattle.order_core.specs.Lawful.{IsLawful}
use Rattle.order_core.specs.Core.{Core, IsMet, IsPassed, MayWrite, MayRead, IsConsistent}
use Rattle.order_core.proofs.Ranks.{eqb_is, is_write, rank_lt}

abbrev bit : Bool → ℕ
bit b = if b then 1 else 0

-- a step of hart h that changes the state, for no record above m
pub data Mover (c : Course) (k : Core) (h m : ℕ) : Type 0 where
  sees_more : (u : ℕ) → h < c.log.harts → u < c.log.harts → u ≢ h → k.seen h u < k.progress u → Mover c k h m
  tells_more : h < c.log.harts → k.progress h < m → IsPassed c (k.written h) (k.seen h) h m → Mover c k h m
  writes_more : (p : ℕ) (a : Operation) → MayWrite c h (k.written h) (k.seen h) p a → a.number ≤ m → Mover c k h m

-- a list is searched for an element with a fact of it and of its place, where the first is at place k
module _ {A : Type 0} (P Q : ℕ → A → Type 0) where
  abbrev Each : List A → ℕ → Type 0
  Each xs k = (i j : ℕ) (a : A) → get_elem? xs i ≡ some a → j ≡ k + i → P j a

  abbrev One : List A → ℕ → Type 0
  One xs k = (i : ℕ) × (j : ℕ) × (a : A) × (get_elem? xs i ≡ some a) × (j ≡ k + i) × Q j a

  pub all_or_one : (xs : List A) (k : ℕ) → ((i j : ℕ) (a : A) → get_elem? xs i ≡ some a → j ≡ k + i → P j a ⊎ Q j a) → Each xs k ⊎ One xs k
  all_or_one [] k test = inl (λ i j a e s. absurd (some-ne-none a (sym e)))
  all_or_one (x ∷ xs) k test = ⊎_elim
      (λ (p : P k x). ⊎_elim
      (λ (all : Each xs (suc k)). inl (each p all))
      (λ (t : One xs (suc k)). inr (suc t.0, t.1, t.2, t.3, (let e : t.1 ≡ suc k + t.0 = t.4 in omega arith), t.5))
      (all_or_one xs (suc k) (λ i j a e s. test (suc i) j a e (omega arith))))
      (λ (q : Q k x). inr (0, k, x, refl, omega arith, q))
      (test 0 k x refl (omega arith))
    where
      each : P k x → Each xs (suc k) → Each (x ∷ xs) k
      each p all zero j a e s = let t : k ≡ j = omega arith in subst (λ (z : ℕ × A). P z.0 z.1) (λ i. (t i, some-injective x a e i)) p
      each p all (suc i) j a e s = all i j a e (omega arith)

-- the same for the numbers below a bound
module _ (P Q : ℕ → Type 0) where
  pub below_or_one : (n : ℕ) → ((u : ℕ) → u < n → P u ⊎ Q u) → ((u : ℕ) → u < n → P u) ⊎ ((u : ℕ) × (u < n) × Q u)
  below_or_one zero test = inl (λ u l. absurd (omega arith))
  below_or_one (suc n) test = ⊎_elim
      (λ (all : (u : ℕ) → u < n → P u). ⊎_elim
      (λ (p : P n). inl (λ u l. dite (ℕ_discrete u n) (λ e. subst P (sym e) p) (λ ne. all u (let o : u ≡ n → ⊥ = ne in omega arith))))
      (λ (q : Q n). inr (n, omega arith, q))
      (test n (omega arith)))
      (λ (t : (u : ℕ) × (u < n) × Q u). inr (t.0, (let l : t.0 < n = t.1 in omega arith), t.2))
      (below_or_one n (λ u l. test u (omega arith)))

-- the write of a rank below that of a place
write_at : (h : ℕ) (xs : List Operation) (p n : ℕ) → n < rank h xs p → (q : ℕ) × (a : Operation) × (q < p) × (get_elem? xs q ≡ some a) × (is_write_of h a ≡ true) × (rank h xs q ≡ n)
write_at h [] p n l = absurd (omega arith)
write_at h (x ∷ xs) zero n l = absurd (omega arith)
write_at h (x ∷ xs) (suc p) n l = by (write_at h xs p) (is_write_of h x) refl n l
  where
    by : ((n : ℕ) → n < rank h xs p → (q : ℕ) × (a : Operation) × (q < p) × (get_elem? xs q ≡ some a) × (is_write_of h a ≡ true) × (rank h xs q ≡ n))
        → (b : Bool) → is_write_of h x ≡ b → (n : ℕ) → n < bit (is_write_of h x) + rank h xs p
        → (q : ℕ) × (a : Operation) × (q < suc p) × (get_elem? (x ∷ xs) q ≡ some a) × (is_write_of h a ≡ true) × (rank h (x ∷ xs) q ≡ n)
    by deep true e zero l = (0, x, omega arith, refl, e, refl)
    by deep true e (suc n) l =
        let first : bit (is_write_of h x) ≡ 1 = ap bit e in
        let t = deep n (omega arith) in
        (suc t.0, t.1, (let s : t.0 < p = t.2 in omega arith), t.3, t.4, (let r : rank h xs t.0 ≡ n = t.5 in omega arith))
    by deep false e n l =
        let nothing : bit (is_write_of h x) ≡ 0 = ap bit e in
        let t = deep n (omega arith) in
        (suc t.0, t.1, (let s : t.0 < p = t.2 in omega arith), t.3, t.4, (let r : rank h xs t.0 ≡ n = t.5 in omega arith))

and_both : (a b : Bool) → (a && b) ≡ true → (a ≡ true) × (b ≡ true)
and_both true b e = (refl, e)
and_both false b e = absurd (let f : false ≡ true = e in cc)

module _ (c : Course) (law : IsLawful c) where
  abbrev g : List Line
  g = c.log.lines

  pub line_inside : (i h m : ℕ) (l : Line) → IsRecord g i h m l → m ≤ length_of c h
  line_inside i h m l is =
      let long : i < length g = inside g i l is.at in
      let own : records_before h g (i + 1) ≡ records_before h g i + 1 = before_own g i h l is.at is.hart in
      let up : records_before h g (i + 1) ≤ records_before h g (length g) = before_up g (i + 1) (length g) h (omega arith) in
      let number : records_before h g i + 1 ≡ m = is.number in
      omega arith

  -- what a record needs is before it
  needed_before : (i h m : ℕ) (l : Line) → IsRecord g i h m l → (u n : ℕ) → IsNeed g u n h m → n ≤ records_before u g i
  needed_before i h m l is u n need = source_before c.log.harts g law.log.flow i h m u n l is (need_edge c.log.harts g law.log.flow u n h m need)

  -- a record needs records of other harts of the run
  into_within : (u n h m : ℕ) → Into g u n h m → (u ≢ h) × (u < c.log.harts)
  into_within u n h m (inl a) = let t = law.log.flow.arcs a.0 h m a.1 a.2 u n a.3 in (t.1, t.0)
  into_within u n h m (inr (inl a)) = let t = law.log.flow.notices a.0 u n a.1 a.2 h m a.3 in ((λ e. t.1 (sym e)), law.log.flow.within a.0 u n a.1 a.2)
  into_within u n h m (inr (inr a)) = let t = law.log.flow.notices a.5.0 h a.2 a.5.1 a.5.2 u n a.5.3 in (t.1, t.0)

  pub need_within : (u n h m : ℕ) → IsNeed g u n h m → (u ≢ h) × (u < c.log.harts)
  need_within u n h m need = into_within u n h m (need_edge c.log.harts g law.log.flow u n h m need)

  module _ (k : Core) (st : IsConsistent c k) where
    -- the records at the first i positions are advertised
    abbrev pub Told : ℕ → Type 0
    Told i = (j h m : ℕ) (l : Line) → j < i → IsRecord g j h m l → m ≤ k.progress h

    pub told_before : (i u n : ℕ) → Told i → n ≤ records_before u g i → n ≤ k.progress u
    told_before i u zero told l = omega arith
    told_before i u (suc n) told l = let t = record_at g i u (suc n) (omega arith) l in told t.0 u (suc n) t.1 t.2 t.3

    module _ (i h m : ℕ) (l : Line) (told : Told i) (is : IsRecord g i h m l) (next : m ≡ k.progress h + 1) where
      own_hart : h < c.log.harts
      own_hart = law.log.flow.within i h m l is

      abbrev Fine : ℕ → Type 0
      Fine u = (n j : ℕ) → IsNeed g u n h j → j ≤ m → n ≤ k.seen h u

      abbrev Short : ℕ → Type 0
      Short u = (u ≢ h) × (k.seen h u < k.progress u)

      -- needs of earlier records are met, so that of record m decides
      fine_now : (u : ℕ) → ((n : ℕ) → IsNeed g u n h m → n ≤ k.seen h u) → Fine u
      fine_now u now n j need le = dite (ℕ_discrete j m)
          (λ e. now n (subst (λ (z : ℕ). IsNeed g u n h z) e need))
          (λ ne. (st.1.passed h).1 u n j need (let o : j ≡ m → ⊥ = ne in omega arith))

      none_needed : (u : ℕ) → need_of g u h m ≡ None → (n : ℕ) → IsNeed g u n h m → n ≤ k.seen h u
      none_needed u e n need = absurd (let t : None ≡ Some n = sym e ∙ need in cc)

      one_needed : (u x : ℕ) → need_of g u h m ≡ Some x → x ≤ k.seen h u → (n : ℕ) → IsNeed g u n h m → n ≤ k.seen h u
      one_needed u x e le n need = let t : Some x ≡ Some n = sym e ∙ need in let s : x ≡ n = cc in omega arith

      test_need : (u : ℕ) → u < c.log.harts → Fine u ⊎ Short u
      test_need u low = by (need_of g u h m) refl
        where
          by : (o : Option ℕ) → need_of g u h m ≡ o → Fine u ⊎ Short u
          by None e = inl (fine_now u (none_needed u e))
          by (Some x) e = dite (dec_le x (k.seen h u))
              (λ le. inl (fine_now u (one_needed u x e le)))
              (λ n. let short : k.seen h u < x = lt_of_not-le n in
              let up : x ≤ k.progress u = told_before i u x told (needed_before i h m l is u x e) in
              inr ((need_within u x h m e).0, omega arith))

      all_fine : ((u : ℕ) → u < c.log.harts → Fine u) → IsMet c (k.seen h) h m
      all_fine all u n j need le = all u (need_within u n h j need).1 n j need le

      abbrev Done : ℕ → Operation → Type 0
      Done p a = a.hart ≡ h → a.what.write ≡ true → a.number ≤ m → rank h c.operations p < k.written h

      abbrev Due : ℕ → Operation → Type 0
      Due p a = (a.hart ≡ h) × (a.what.write ≡ true) × (a.number ≤ m) × (k.written h ≤ rank h c.operations p)

      test_act : (x p : ℕ) (a : Operation) → get_elem? c.operations x ≡ some a → p ≡ 0 + x → Done p a ⊎ Due p a
      test_act x p a at same = dite (dec_le (k.written h) (rank h c.operations p))
          (λ l. dite (ℕ_discrete a.hart h) (λ own. dite (dec_le a.number m)
          (λ le. by a.what.write refl own le l)
          (λ n. inl (λ _ _ le. absurd (n le))))
          (λ n. inl (λ own _ _. absurd (n own))))
          (λ n. inl (λ _ _ _. lt_of_not-le n))
        where
          by : (b : Bool) → a.what.write ≡ b → a.hart ≡ h → a.number ≤ m → k.written h ≤ rank h c.operations p → Done p a ⊎ Due p a
          by true e own le l = inr (own, e, le, l)
          by false e own le l = inl (λ _ w _. absurd (let f : true ≡ false = sym w ∙ e in cc))

      -- the first write that is not performed may be performed
      first_due : IsMet c (k.seen h) h m → (p : ℕ) (a : Operation) → At c p a → Due p a → Mover c k h m
      first_due met p a at due = dite (ℕ_discrete (k.written h) (rank h c.operations p))
          (λ e. writes_more p a (at, due.1, due.0, sym e, λ u n j need le. met u n j need (let top : a.number ≤ m = due.2 in omega arith)) due.2)
          (λ n. let low : k.written h ≤ rank h c.operations p = due.3 in
          let o : k.written h ≡ rank h c.operations p → ⊥ = n in
          let t = write_at h c.operations p (k.written h) (omega arith) in
          let b = t.1 in
          let w = and_both b.what.write (eqb b.hart h) t.4 in
          let own : b.hart ≡ h = eqb_is b.hart h w.1 in
          let order : b.number ≤ a.number = ⊎_elim (λ (x : b.number < a.number). omega arith) (λ (x : (b.number ≡ a.number) × (b.op < a.op)). (let y : b.number ≡ a.number = x.0 in omega arith)) (law.in_order.order t.0 p b a t.3 at t.2 (own ∙ sym due.0)) in
          let top : a.number ≤ m = due.2 in
          writes_more t.0 b (t.3, w.0, own, t.5, λ u z j need le. met u z j need (omega arith)) (omega arith))

      -- the next record of a hart moves, once all before it is advertised
      pub moves_here : Mover c k h m
      moves_here = ⊎_elim
          (λ (all : (u : ℕ) → u < c.log.harts → Fine u). let met : IsMet c (k.seen h) h m = all_fine all in ⊎_elim
          (λ (done : Each Done Due c.operations 0). tells_more own_hart (omega arith) (line_inside i h m l is, met, λ p a at own w le. done p p a at (omega arith) own w le))
          (λ (t : One Done Due c.operations 0). first_due met t.1 t.2 (subst (λ (z : ℕ). At c z t.2) (let e : t.1 ≡ 0 + t.0 = t.4 in omega arith) t.3) t.5)
          (all_or_one Done Due c.operations 0 test_act))
          (λ (t : (u : ℕ) × (u < c.log.harts) × Short u). sees_more t.0 own_hart t.1 t.2.0 t.2.1)
          (below_or_one Fine Short c.log.harts test_need)

    -- a record that is not advertised, and all before it are, gives X
    module _ (X : Type 0) (first : (i h m : ℕ) (l : Line) → Told i → IsRecord g i h m l → m ≡ k.progress h + 1 → X) where
      told_next : (i : ℕ) → Told i → (o : Maybe Line) → get_elem? g i ≡ o → Told (suc i) ⊎ X
      told_next i told none e = inl (λ j h m l lt is. dite (ℕ_discrete j i)
          (λ same. absurd (some-ne-none l (sym (subst (λ (z : ℕ). get_elem? g z ≡ some l) same is.at) ∙ e)))
          (λ n. told j h m l (let o : j ≡ i → ⊥ = n in omega arith) is))
      told_next i told (some x) e =
          let h : ℕ = hart_of x.what in
          let m : ℕ = records_before h g i + 1 in
          let is : IsRecord g i h m x = record { at = e; hart = refl; number = refl } in
          let most : m ≤ k.progress h + 1 = (let b : records_before h g i ≤ k.progress h = told_before i h (records_before h g i) told (omega arith) in omega arith) in
          dite (dec_le m (k.progress h))
          (λ fine. inl (λ j v n l lt at. dite (ℕ_discrete j i)
          (λ same. let there : IsRecord g i v n l = subst (λ (z : ℕ). IsRecord g z v n l) same at in
          let line : x ≡ l = some-injective x l (sym e ∙ there.at) in
          let hart : h ≡ v = ap (λ (z : Line). hart_of z.what) line ∙ there.hart in
          let number : records_before v g i + 1 ≡ n = there.number in
          let count : records_before h g i ≡ records_before v g i = ap (λ (z : ℕ). records_before z g i) hart in
          let up : k.progress h ≡ k.progress v = ap k.progress hart in omega arith)
          (λ ne. told j v n l (let o : j ≡ i → ⊥ = ne in omega arith) at)))
          (λ short. inr (first i h m x told is (let s : k.progress h < m = lt_of_not-le short in omega arith)))

      tells_all : (i : ℕ) → Told i ⊎ X
      tells_all zero = inl (λ j h m l lt is. absurd (omega arith))
      tells_all (suc i) = ⊎_elim (λ (told : Told i). told_next i told (get_elem? g i) refl) inr (tells_all i)

      -- where some hart has not advertised all its records, there is a first that is not
      pub first_untold : (h : ℕ) → k.progress h < length_of c h → X
      first_untold h short = ⊎_elim
          (λ (told : Told (length g)). let up : length_of c h ≤ k.progress h = told_before (length g) h (length_of c h) told (omega arith) in absurd (omega arith))
          (λ (x : X). x)
          (tells_all (length g))

module _ (c : Course) where
  -- a read that may be made may be made after a look of its own hart
  pub read_after_see : (h p : ℕ) (a : Operation) (w y : ℕ) (f f' : ℕ → ℕ) → ((u : ℕ) → f u ≤ f' u) → MayRead c h w y f p a → MayRead c h w y f' p a
  read_after_see h p a w y f f' up m = (m.0, m.1, m.2, (λ u n j need l. let o : n ≤ f u = m.3 u n j need l in let q : f u ≤ f' u = up u in omega arith), m.4, m.5)

  -- and after its hart performs a write that does not clash with it
  pub read_after_write : (h p q : ℕ) (a b : Operation) (w y : ℕ) (f : ℕ → ℕ) → MayRead c h w y f p a → At c q b → b.what.write ≡ true → b.hart ≡ h → rank h c.operations q ≡ w → (Meets b.what a.what → ⊥) → MayRead c h (w + 1) y f p a
  read_after_write h p q a b w y f m at wr own full apart = (
    m.0,
    m.1,
    m.2,
    m.3,
    m.4,
    λ x d is dw down on. let o = m.5 x d is dw down on in (
      (λ l. dite (dec_le w (rank h c.operations x))
          (λ le. absurd (apart (subst (λ (z : Operation). Meets z.what a.what) (same x d is dw down (omega arith)) on)))
          (λ n. o.0 (lt_of_not-le n))),
      (λ l. let r : rank h c.operations x < w = o.1 l in omega arith),
    ),
  )
    where
      same : (x : ℕ) (d : Operation) → At c x d → d.what.write ≡ true → d.hart ≡ h → rank h c.operations x ≡ w → d ≡ b
      same x d is dw down r = dite (ℕ_discrete x q)
          (λ e. some-injective d b (sym (subst (λ (z : ℕ). At c z d) e is) ∙ at))
          (λ n. let o : x ≡ q → ⊥ = n in dite (dec_le x q)
          (λ l. let s : rank h c.operations x < rank h c.operations q = rank_lt h c.operations x q d is (is_write h d dw down) (omega arith) in absurd (omega arith))
          (λ l. let s : rank h c.operations q < rank h c.operations x = rank_lt h c.operations q x b at (is_write h b wr own) (lt_of_not-le l) in absurd (omega arith)))

  -- where hart h may perform the next write, no other write has its rank
  pub one_write : (h p q : ℕ) (a b : Operation) (w : ℕ) (f f' : ℕ → ℕ) → MayWrite c h w f p a → MayWrite c h w f' q b → p ≡ q
  one_write h p q a b w f f' m m' = dite (ℕ_discrete p q) (λ e. e) (λ ne. let o : p ≡ q → ⊥ = ne in
      let x : rank h c.operations p ≡ w = m.3 in let y : rank h c.operations q ≡ w = m'.3 in
      absurd (dite (dec_le p q)
      (λ l. let s : rank h c.operations p < rank h c.operations q = rank_lt h c.operations p q a m.0 (is_write h a m.1 m.2) (omega arith) in omega arith)
      (λ l. let s : rank h c.operations q < rank h c.operations p = rank_lt h c.operations q p b m'.0 (is_write h b m'.1 m'.2) (lt_of_not-le l) in omega arith)))

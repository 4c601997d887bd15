-- Each allowed step keeps a state closed and its progress sound, and a read then gives the plan's value.
use Rattle.std.proofs.Common.{◌≡◌, ◌≢◌, ℕ, ◌+◌, ◌<◌, ◌≤◌, Bool, true, false, ◌⊎◌, length, slice_index, refl, sym, ap, ◌∙◌, subst, inl, inr, ⊎_elim, arith, lt-ltb, le-ltb, lt_of_not-le}
use mathlib.Core.Option.{some-injective}
use mathlib.Core.Logic.{dite}
use native.Mathlib.Decide.{ℕ_discrete, dec_le}
use Rattle.order_core.specs.declared.course.Operation.{Operation}
use Rattle.order_core.specs.declared.course.Course.{Course}
use Rattle.pl_event.specs.Graph.{Path, one, more}
use Rattle.pl_event.specs.Edges.{Into}
use Rattle.pl_event.specs.Needs.{IsNeed}
use Rattle.pl_event.specs.Records.{line_number}
use Rattle.pl_event.proofs.Places.{line_number_zero}
use Rattle.pl_event.proofs.Edges.{forward}
use Rattle.pl_event.proofs.Sources.{need_edge}
use Rattle.pl_event.proofs.Paths.{by_needs}
use Rattle.order_core.specs.Lanes.{lane, covers, Meets, Lands}
use Rattle.order_core.specs.Course.{At, Clash, rank, left_in, before}
use Rattle.order_core.specs.Lawful.{IsLawful}
use Rattle.order_core.specs.Core.{Core, done_by, IsDone, IsMet, IsPassed, MayWrite, MayRead, HasSoundProgress, IsConsistent, put, after_write, after_advertise, after_see, opening_core}
use Rattle.order_core.proofs.Ranks.{put_here, put_else, same_test, is_write, rank_lt, left_same, left_none, left_last}

-- a write and a read are not at one place, so two places of different kinds differ
same_act : (c : Course) (p : ℕ) (a b : Operation) → At c p a → At c p b → a ≡ b
same_act c p a b x y = some-injective a b (sym x ∙ y)

true_not_false : (b : Bool) → b ≡ true → b ≡ false → ⊥
true_not_false b t f = cc

-- no record 0 needs anything
pub no_first_need : (c : Course) → IsLawful c → (u n h k : ℕ) → k ≤ 0 → IsNeed c.log.lines u n h k → ⊥
no_first_need c law u n h k low need =
    let z : k ≡ 0 = omega arith in
    let edge : Into c.log.lines u n h 0 = subst (λ (y : ℕ). Into c.log.lines u n h y) z (need_edge c.log.harts c.log.lines law.log.flow u n h k need) in
    let f : line_number c.log.lines u n < line_number c.log.lines h 0 = forward c.log.harts c.log.lines law.log.flow u n h 0 (inr edge) in
    let e : line_number c.log.lines h 0 ≡ 0 = line_number_zero c.log.lines h in
    omega arith

module _ (c : Course) where
  pub met_less : (seen : ℕ → ℕ) (h m n : ℕ) → n ≤ m → IsMet c seen h m → IsMet c seen h n
  met_less seen h m n l met u o j need le = met u o j need (omega arith)

  -- where the needs of a record are met, and a path leads to it from another hart, that hart's progress word is not below
  -- the path's beginning
  pub reached : (k : Core) → HasSoundProgress c k → (u n h m : ℕ) → Path (IsNeed c.log.lines) u n h m → IsMet c (k.seen h) h m → ((u ≡ h) × (n < m)) ⊎ (n ≤ k.progress u)
  reached k s u n h m (one (inl t)) met = inl (t.0, (let e : n + 1 ≡ m = t.1 in omega arith))
  reached k s u n h m (one (inr need)) met =
      let l : n ≤ k.seen h u = met u n m need (omega arith) in
      let up : k.seen h u ≤ k.progress u = s.seen h u in
      inr (omega arith)
  reached k s u n h m (more {v = v} {k = j} p (inl t)) met =
      let e : j + 1 ≡ m = t.1 in
      let same : IsMet c (k.seen v) v j = subst (λ (z : ℕ). IsMet c (k.seen z) z j) (sym t.0) (met_less (k.seen h) h m j (omega arith) met) in
      ⊎_elim (λ (r : (u ≡ v) × (n < j)). inl (r.0 ∙ t.0, (let l : n < j = r.1 in omega arith))) inr (reached k s u n v j p same)
  reached k s u n h m (more {v = v} {k = j} p (inr need)) met =
      let l : j ≤ k.seen h v = met v j m need (omega arith) in
      let up : k.seen h v ≤ k.progress v = s.seen h v in
      let there : j ≤ k.progress v = omega arith in
      let ms : IsMet c (k.seen v) v j = met_less (k.seen v) v (k.progress v) j there (s.passed v).1 in
      ⊎_elim (λ (r : (u ≡ v) × (n < j)). let Q : ℕ → Type 0 = λ z. n ≤ k.progress z in let b : n < j = r.1 in inr (subst Q (sym r.0) (omega arith))) inr (reached k s u n v j p ms)

  module _ (law : IsLawful c) (k : Core) (st : IsConsistent c k) where
    -- an earlier clashing operation of another hart is covered
    pub covered : (p q : ℕ) (a b : Operation) → At c p a → At c q b → q < p → a.hart ≢ b.hart → Clash b a → IsMet c (k.seen a.hart) a.hart a.number → b.number ≤ k.progress b.hart
    covered p q a b x y l ne clash met = ⊎_elim (λ (t : (b.hart ≡ a.hart) × (b.number < a.number)). absurd (ne (sym t.0))) (λ z. z)
        (reached k st.1 b.hart b.number a.hart a.number (by_needs c.log.harts c.log.lines law.log.flow b.hart b.number a.hart a.number (law.paths q p b a y x l (λ e. ne (sym e)) clash)) met)

    pub covered_done : (p q : ℕ) (a b : Operation) → At c p a → At c q b → q < p → a.hart ≢ b.hart → Clash b a → IsMet c (k.seen a.hart) a.hart a.number → b.what.write ≡ true → IsDone c k.written q b
    covered_done p q a b x y l ne clash met w = (st.1.passed b.hart).2 q b y refl w (covered p q a b x y l ne clash met)

    reads_own : (p : ℕ) (a : Operation) → MayRead c a.hart (k.written a.hart) (k.progress a.hart) (k.seen a.hart) p a → (l : ℕ) → l < 4 → covers a.what.lanes l ≡ true → lane l (k.word a.what.word) ≡ lane l a.what.value
    reads_own p a r l four cov =
        let inside = law.inside p a r.0 in
        st.0.words a.what.word l inside.what.low inside.what.high four
        ∙ (left_same (done_by c k.written) (before p) 0 c.operations a.what.word l (lane l (slice_index c.opening a.what.word)) (λ i j b at e w on also. subst (λ (z : ℕ). done_by c k.written z b ≡ before p z b) (omega arith) (agree i b at w (on, l, also, cov)))
        ∙ sym (law.values p a r.0 r.1 l four cov))
      where
        late : (q : ℕ) (b : Operation) → At c q b → b.what.write ≡ true → Meets b.what a.what → b.hart ≢ a.hart → p ≤ q → IsDone c k.written q b → ⊥
        late q b at w on other le d =
            let apart : p ≢ q = λ e. true_not_false b.what.write w (ap (λ (z : Operation). z.what.write) (same_act c q b a at (subst (λ (z : ℕ). At c z a) e r.0)) ∙ r.1) in
            let after : p < q = omega arith in
            let up : a.number ≤ k.progress a.hart = st.0.reads q p b a at r.0 after w r.1 on other d in
            let down : k.progress a.hart < a.number = r.4 in
            omega arith

        agree : (q : ℕ) (b : Operation) → At c q b → b.what.write ≡ true → Meets b.what a.what → done_by c k.written q b ≡ before p q b
        agree q b at w on = dite (ℕ_discrete b.hart a.hart)
            (λ own. let mine = r.5 q b at w own on in let P : ℕ → Type 0 = λ z. rank z c.operations q < k.written z in
            same_test (rank b.hart c.operations q) (k.written b.hart) q p (λ d. mine.0 (subst P own d)) (λ le. subst P (sym own) (mine.1 le)))
            (λ other. same_test (rank b.hart c.operations q) (k.written b.hart) q p
            (λ d. dite (dec_le p q) (λ le. absurd (late q b at w on other le d)) lt_of_not-le)
            (λ le. covered_done p q a b r.0 at le (λ e. other (sym e)) (on, inl w) r.3 w))

    -- a read that is allowed finds the plan's value in its lanes
    pub reads : (h p : ℕ) (a : Operation) → MayRead c h (k.written h) (k.progress h) (k.seen h) p a → (l : ℕ) → l < 4 → covers a.what.lanes l ≡ true → lane l (k.word a.what.word) ≡ lane l a.what.value
    reads h p a r = reads_own p a (subst (λ (z : ℕ). MayRead c z (k.written z) (k.progress z) (k.seen z) p a) (sym r.2) r)

    turned : (a b : Operation) → Meets a.what b.what → Meets b.what a.what
    turned a b m = (sym m.0, m.1, m.3, m.2)

    -- a write that is allowed finds what the run has there before it
    pub write_finds : (p : ℕ) (a : Operation) → MayWrite c a.hart (k.written a.hart) (k.seen a.hart) p a → (l : ℕ) → l < 4 → covers a.what.lanes l ≡ true → lane l (k.word a.what.word) ≡ left_in (before p) 0 c.operations a.what.word l (lane l (slice_index c.opening a.what.word))
    write_finds p a m l four cov =
        let inside = law.inside p a m.0 in
        st.0.words a.what.word l inside.what.low inside.what.high four
        ∙ left_same (done_by c k.written) (before p) 0 c.operations a.what.word l (lane l (slice_index c.opening a.what.word)) (λ i j b at e w on also. subst (λ (z : ℕ). done_by c k.written z b ≡ before p z b) (omega arith) (same_test (rank b.hart c.operations i) (k.written b.hart) i p (down i b at w (on, l, also, cov)) (up i b at w (on, l, also, cov))))
      where
        up : (q : ℕ) (b : Operation) → At c q b → b.what.write ≡ true → Meets b.what a.what → q < p → IsDone c k.written q b
        up q b at w on le = dite (ℕ_discrete b.hart a.hart)
            (λ e. let r : rank b.hart c.operations q < rank b.hart c.operations p = rank_lt b.hart c.operations q p b at (is_write b.hart b w refl) le in
            let full : rank b.hart c.operations p ≡ k.written b.hart = subst (λ (z : ℕ). rank z c.operations p ≡ k.written z) (sym e) m.3 in omega arith)
            (λ e. covered_done p q a b m.0 at le (λ z. e (sym z)) (on, inl w) m.4 w)

        down : (q : ℕ) (b : Operation) → At c q b → b.what.write ≡ true → Meets b.what a.what → IsDone c k.written q b → q < p
        down q b at w on d = dite (dec_le p q)
            (λ le. absurd (dite (ℕ_discrete p q)
            (λ e. let same : b ≡ a = same_act c p b a (subst (λ (z : ℕ). At c z b) (sym e) at) m.0 in
            let r : rank a.hart c.operations p < k.written a.hart = subst (λ (z : ℕ × Operation). rank z.1.hart c.operations z.0 < k.written z.1.hart) (λ t. (sym e t, same t)) d in let full : rank a.hart c.operations p ≡ k.written a.hart = m.3 in omega arith)
            (λ n. let back : rank a.hart c.operations p < k.written a.hart = st.0.writes q p b a at m.0 (omega arith) w m.1 on d in let full : rank a.hart c.operations p ≡ k.written a.hart = m.3 in omega arith)))
            lt_of_not-le

    module _ (p : ℕ) (a : Operation) (m : MayWrite c a.hart (k.written a.hart) (k.seen a.hart) p a) (n : ℕ) (lands : Lands a.what (k.word a.what.word) n) where
      abbrev now : ℕ → ℕ
      now = put k.written a.hart (k.written a.hart + 1)

      now_own : (u : ℕ) → u ≡ a.hart → now u ≡ k.written u + 1
      now_own u e = subst (λ (z : ℕ). now z ≡ k.written z + 1) (sym e) (put_here k.written a.hart (k.written a.hart + 1))

      now_other : (u : ℕ) → u ≢ a.hart → now u ≡ k.written u
      now_other u n = put_else k.written a.hart u (k.written a.hart + 1) n

      now_up : (u : ℕ) → k.written u ≤ now u
      now_up u = dite (ℕ_discrete u a.hart) (λ e. let n : now u ≡ k.written u + 1 = now_own u e in omega arith) (λ e. let n : now u ≡ k.written u = now_other u e in omega arith)

      done_up : (q : ℕ) (b : Operation) → IsDone c k.written q b → IsDone c now q b
      done_up q b d = let l : k.written b.hart ≤ now b.hart = now_up b.hart in omega arith

      done_was : (q : ℕ) (b : Operation) → At c q b → b.what.write ≡ true → IsDone c now q b → IsDone c k.written q b ⊎ (q ≡ p)
      done_was q b at w d = dite (ℕ_discrete b.hart a.hart)
          (λ e. let n : now b.hart ≡ k.written b.hart + 1 = now_own b.hart e in
          let full : rank b.hart c.operations p ≡ k.written b.hart = subst (λ (z : ℕ). rank z c.operations p ≡ k.written z) (sym e) m.3 in
          dite (ℕ_discrete q p) inr (λ ne. dite (dec_le p q)
          (λ l. let r : rank b.hart c.operations p < rank b.hart c.operations q = rank_lt b.hart c.operations p q a m.0 (is_write b.hart a m.1 (sym e)) (omega arith) in absurd (omega arith))
          (λ l. let s : q < p = lt_of_not-le l in let r : rank b.hart c.operations q < rank b.hart c.operations p = rank_lt b.hart c.operations q p b at (is_write b.hart b w refl) s in inl (omega arith))))
          (λ e. let n : now b.hart ≡ k.written b.hart = now_other b.hart e in inl (omega arith))

      same_here : (q : ℕ) (b : Operation) → At c q b → q ≡ p → b ≡ a
      same_here q b at e = same_act c p b a (subst (λ (z : ℕ). At c z b) e at) m.0

      -- what is before the new write is covered
      below_done : (q : ℕ) (b : Operation) → At c q b → q < p → b.what.write ≡ true → Meets a.what b.what → IsDone c now q b
      below_done q b at l w on = dite (ℕ_discrete b.hart a.hart)
          (λ e. let r : rank b.hart c.operations q < rank b.hart c.operations p = rank_lt b.hart c.operations q p b at (is_write b.hart b w refl) l in
          let full : rank b.hart c.operations p ≡ k.written b.hart = subst (λ (z : ℕ). rank z c.operations p ≡ k.written z) (sym e) m.3 in
          let n : k.written b.hart ≤ now b.hart = now_up b.hart in omega arith)
          (λ e. done_up q b (covered_done p q a b m.0 at l (λ z. e (sym z)) (turned a b on, inl w) m.4 w))

      here_done : IsDone c now p a
      here_done = let n : now a.hart ≡ k.written a.hart + 1 = now_own a.hart refl in let full : rank a.hart c.operations p ≡ k.written a.hart = m.3 in omega arith

      none_later : (q : ℕ) (b : Operation) → At c q b → p < q → b.what.write ≡ true → Meets b.what a.what → IsDone c now q b → ⊥
      none_later q b at l w on d = ⊎_elim
          (λ (o : IsDone c k.written q b). let back : rank a.hart c.operations p < k.written a.hart = st.0.writes q p b a at m.0 l w m.1 on o in let full : rank a.hart c.operations p ≡ k.written a.hart = m.3 in omega arith)
          (λ (e : q ≡ p). omega arith)
          (done_was q b at w d)

      bool_cases : (P : Type 0) (b : Bool) → (b ≡ true → P) → (b ≡ false → P) → P
      bool_cases P true f g = f refl
      bool_cases P false f g = g refl

      unmet : (w l : ℕ) → ((b : Operation) → At c p b → b ≡ a → b.what.word ≡ w → covers b.what.lanes l ≡ true → ⊥) → left_in (done_by c k.written) 0 c.operations w l (lane l (slice_index c.opening w)) ≡ left_in (done_by c now) 0 c.operations w l (lane l (slice_index c.opening w))
      unmet w l not = left_same (done_by c k.written) (done_by c now) 0 c.operations w l (lane l (slice_index c.opening w))
          (λ i j b at is wr on cov. subst (λ (z : ℕ). done_by c k.written z b ≡ done_by c now z b) (omega arith) (same_test (rank b.hart c.operations i) (k.written b.hart) (rank b.hart c.operations i) (now b.hart)
          (done_up i b) (λ d. ⊎_elim (λ (o : IsDone c k.written i b). o) (λ (q : i ≡ p). absurd (not b (subst (λ (z : ℕ). At c z b) q at) (same_here i b at q) on cov)) (done_was i b at wr d))))

      here_words : (l : ℕ) → 9 ≤ a.what.word → a.what.word < length c.opening → l < 4 → lane l n ≡ left_in (done_by c now) 0 c.operations a.what.word l (lane l (slice_index c.opening a.what.word))
      here_words l low high four = bool_cases (lane l n ≡ left_in (done_by c now) 0 c.operations a.what.word l (lane l (slice_index c.opening a.what.word))) (covers a.what.lanes l)
          (λ cov. (lands l four).0 cov ∙ sym (left_last (done_by c now) 0 p c.operations a.what.word l (lane l (slice_index c.opening a.what.word)) a m.0 m.1 refl cov
          (λ j is. subst (λ (z : ℕ). done_by c now z a ≡ true) (omega arith) (lt-ltb (rank a.hart c.operations p) (now a.hart) here_done))
          (λ i j b le at is wr on also. subst (λ (z : ℕ). done_by c now z b ≡ false) (omega arith) (le-ltb (rank b.hart c.operations i) (now b.hart)
          (dite (dec_le (now b.hart) (rank b.hart c.operations i)) (λ y. y) (λ g. absurd (none_later i b at le wr (on, l, also, cov) (lt_of_not-le g))))))))
          (λ cov. (lands l four).1 cov ∙ (st.0.words a.what.word l low high four ∙ unmet a.what.word l (λ b at e on also. true_not_false (covers a.what.lanes l) (ap (λ (z : Operation). covers z.what.lanes l) (sym e) ∙ also) cov)))

      now_words : (w l : ℕ) → 9 ≤ w → w < length c.opening → l < 4 → lane l (put k.word a.what.word n w) ≡ left_in (done_by c now) 0 c.operations w l (lane l (slice_index c.opening w))
      now_words w l low high four = dite (ℕ_discrete w a.what.word)
          (λ e. let P : ℕ → Type 0 = λ z. lane l (put k.word a.what.word n z) ≡ left_in (done_by c now) 0 c.operations z l (lane l (slice_index c.opening z)) in
          subst P (sym e) (ap (lane l) (put_here k.word a.what.word n) ∙ here_words l (subst (λ (z : ℕ). 9 ≤ z) e low) (subst (λ (z : ℕ). z < length c.opening) e high) four))
          (λ e. ap (lane l) (put_else k.word a.what.word w n e) ∙ (st.0.words w l low high four ∙ unmet w l (λ b at s on also. e (sym on ∙ ap (λ (z : Operation). z.what.word) s))))

      pub writes : IsConsistent c (after_write k a n)
      writes = (
        record {
          writes = λ q r b d x y l wb wd on done. ⊎_elim (λ (o : IsDone c k.written q b). done_up r d (st.0.writes q r b d x y l wb wd on o))
              (λ (e : q ≡ p). below_done r d y (omega arith) wd (subst (λ (z : Operation). Meets z.what d.what) (same_here q b x e) on)) (done_was q b x wb done);
          reads = λ q r b d x y l wb rd on other done. ⊎_elim (λ (o : IsDone c k.written q b). st.0.reads q r b d x y l wb rd on other o)
              (λ (e : q ≡ p). let s = same_here q b x e in covered p r a d m.0 y (omega arith) (λ z. other (ap (λ (t : Operation). t.hart) s ∙ z)) (turned a d (subst (λ (z : Operation). Meets z.what d.what) s on), inr m.1) m.4) (done_was q b x wb done);
          words = now_words;
        },
        record {
          passed = λ h. let o = st.1.passed h in (o.0, o.1, λ q b at own w n. let d : rank h c.operations q < k.written h = o.2 q b at own w n in let up : k.written h ≤ now h = now_up h in omega arith);
          seen = st.1.seen;
          met = λ q b at w d. ⊎_elim (λ (o : IsDone c k.written q b). st.1.met q b at w o) (λ (e : q ≡ p). subst (λ (z : Operation). IsMet c (k.seen z.hart) z.hart z.number) (sym (same_here q b at e)) m.4) (done_was q b at w d);
        },
      )

    module _ (h m : ℕ) (up : k.progress h ≤ m) (may : IsPassed c (k.written h) (k.seen h) h m) where
      abbrev later : ℕ → ℕ
      later = put k.progress h m

      later_up : (u : ℕ) → k.progress u ≤ later u
      later_up u = dite (ℕ_discrete u h) (λ e. subst (λ (z : ℕ). k.progress z ≤ later z) (sym e) (let n : later h ≡ m = put_here k.progress h m in omega arith)) (λ e. let n : later u ≡ k.progress u = put_else k.progress h u m e in omega arith)

      pub advertises : IsConsistent c (after_advertise k h m)
      advertises = (
        record {
          writes = st.0.writes;
          reads = λ q r b d x y l wb rd on other done. let o : d.number ≤ k.progress d.hart = st.0.reads q r b d x y l wb rd on other done in let n : k.progress d.hart ≤ later d.hart = later_up d.hart in omega arith;
          words = st.0.words;
        },
        record {
          passed = λ u. dite (ℕ_discrete u h)
              (λ e. subst (λ (z : ℕ). IsPassed c (k.written z) (k.seen z) z (later z)) (sym e) (subst (λ (z : ℕ). IsPassed c (k.written h) (k.seen h) h z) (sym (put_here k.progress h m)) may))
              (λ e. subst (λ (z : ℕ). IsPassed c (k.written u) (k.seen u) u z) (sym (put_else k.progress h u m e)) (st.1.passed u));
          seen = λ v u. let o : k.seen v u ≤ k.progress u = st.1.seen v u in let n : k.progress u ≤ later u = later_up u in omega arith;
          met = st.1.met;
        },
      )

    module _ (h u : ℕ) where
      abbrev sees : ℕ → ℕ → ℕ
      sees = put k.seen h (put (k.seen h) u (k.progress u))

      one_up : (v : ℕ) → k.seen h v ≤ put (k.seen h) u (k.progress u) v
      one_up v = dite (ℕ_discrete v u) (λ e. subst (λ (z : ℕ). k.seen h z ≤ put (k.seen h) u (k.progress u) z) (sym e) (let n : put (k.seen h) u (k.progress u) u ≡ k.progress u = put_here (k.seen h) u (k.progress u) in let o : k.seen h u ≤ k.progress u = st.1.seen h u in omega arith))
          (λ e. let n : put (k.seen h) u (k.progress u) v ≡ k.seen h v = put_else (k.seen h) u v (k.progress u) e in omega arith)

      one_below : (v : ℕ) → put (k.seen h) u (k.progress u) v ≤ k.progress v
      one_below v = dite (ℕ_discrete v u) (λ e. subst (λ (z : ℕ). put (k.seen h) u (k.progress u) z ≤ k.progress z) (sym e) (let n : put (k.seen h) u (k.progress u) u ≡ k.progress u = put_here (k.seen h) u (k.progress u) in omega arith))
          (λ e. let n : put (k.seen h) u (k.progress u) v ≡ k.seen h v = put_else (k.seen h) u v (k.progress u) e in let o : k.seen h v ≤ k.progress v = st.1.seen h v in omega arith)

      sees_up : (g v : ℕ) → k.seen g v ≤ sees g v
      sees_up g v = dite (ℕ_discrete g h) (λ e. subst (λ (z : ℕ). k.seen z v ≤ sees z v) (sym e) (subst (λ (f : ℕ → ℕ). k.seen h v ≤ f v) (sym (put_here k.seen h (put (k.seen h) u (k.progress u)))) (one_up v)))
          (λ e. subst (λ (f : ℕ → ℕ). k.seen g v ≤ f v) (sym (put_else k.seen h g (put (k.seen h) u (k.progress u)) e)) (omega arith))

      sees_below : (g v : ℕ) → sees g v ≤ k.progress v
      sees_below g v = dite (ℕ_discrete g h) (λ e. subst (λ (z : ℕ). sees z v ≤ k.progress v) (sym e) (subst (λ (f : ℕ → ℕ). f v ≤ k.progress v) (sym (put_here k.seen h (put (k.seen h) u (k.progress u)))) (one_below v)))
          (λ e. subst (λ (f : ℕ → ℕ). f v ≤ k.progress v) (sym (put_else k.seen h g (put (k.seen h) u (k.progress u)) e)) (st.1.seen g v))

      met_up : (g n : ℕ) → IsMet c (k.seen g) g n → IsMet c (sees g) g n
      met_up g n met v o j need l = let b : o ≤ k.seen g v = met v o j need l in let s : k.seen g v ≤ sees g v = sees_up g v in omega arith

      pub looks : IsConsistent c (after_see k h u)
      looks = (
        record { writes = st.0.writes; reads = st.0.reads; words = st.0.words },
        record {
          passed = λ g. let o = st.1.passed g in (o.0, met_up g (k.progress g) o.1, o.2);
          seen = sees_below;
          met = λ q b at w d. met_up b.hart b.number (st.1.met q b at w d);
        },
      )

  pub opens : IsLawful c → IsConsistent c (opening_core c)
  opens law = (
    record {
      writes = λ p q a b x y l w v on d. absurd (omega arith);
      reads = λ p q a b x y l w v on other d. absurd (omega arith);
      words = λ w l low high four. sym (left_none (done_by c (λ h. 0)) 0 c.operations w l (lane l (slice_index c.opening w)) (λ i j b at is wr on cov. le-ltb (rank b.hart c.operations j) 0 (omega arith)));
    },
    record {
      passed = λ h. (omega arith, (λ u n j need l. absurd (no_first_need c law u n h j l need)), (λ p a at own w l. let n : 1 ≤ a.number = (law.inside p a at).from_one in absurd (omega arith)));
      seen = λ h u. omega arith;
      met = λ p a at w d. absurd (omega arith);
    },
  )

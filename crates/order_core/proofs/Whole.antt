-- Whole runs of allowed steps.
use Rattle.std.proofs.Common.{◌≡◌, ◌≢◌, ℕ, ◌+◌, ◌<◌, ◌≤◌, true, List, [], ◌∷◌, length, slice_index, sym, refl, ap, ◌∙◌, subst, inl, inr, ⊎_elim, arith, lt-ltb}
use mathlib.Core.Logic.{dite}
use native.Mathlib.Decide.{ℕ_discrete}
use Rattle.order_core.specs.declared.course.Course.{Course}
use Rattle.order_core.specs.declared.course.Operation.{Operation}
use Rattle.order_core.specs.declared.steps.CoreStep.{CoreStep}
use Rattle.order_core.specs.declared.steps.Act.{Act}
use Rattle.order_core.specs.declared.steps.Act.TheVariants.{See, Advertise, Perform}
use Rattle.order_core.specs.Lanes.{lane}
use Rattle.order_core.specs.Course.{rank, last_lane, length_of, writes_of}
use Rattle.order_core.specs.Lawful.{IsLawful}
use Rattle.order_core.specs.Core.{Core, done_by, IsConsistent, IsFinished, IsOpen, MayRead, MayWrite, put, after_see, after_advertise, after_write, opening_core}
use Rattle.order_core.specs.Runs.{Makes, Performs, Runs, IsReached, MovesAlong, LeavesRead, StaysOpen, most_moves}
use Rattle.order_core.specs.FedCore.{IsUpTo}
use Rattle.order_core.specs.Guarantees.{HasMove}
use Rattle.order_core.proofs.Ranks.{put_here, put_else, put_same, left_same}
use Rattle.order_core.proofs.Keeps.{reads, writes, advertises, looks, opens}
use Rattle.order_core.proofs.Words.{landed, lands}
use Rattle.order_core.proofs.Progress.{Mover, sees_more, tells_more, writes_more, below_or_one, first_untold, moves_here, read_after_see, read_after_write}
use Rattle.order_core.proofs.Bound.{height, below, advertise_raises, write_raises, see_raises, write_counts}

-- hart h is as far in both states
record Same (h : ℕ) (k k' : Core) : Type 0 where
  written : k'.written h ≡ k.written h
  progress : k'.progress h ≡ k.progress h
  seen : k'.seen h ≡ k.seen h

module _ (c : Course) (law : IsLawful c) where
  -- a consistent state, whose harts have performed no more writes than they have
  abbrev pub Fits : Core → Type 0
  Fits k = IsConsistent c k × ((h : ℕ) → k.written h ≤ writes_of c h)

  pub own_write : (h p : ℕ) (a : Operation) (k : Core) → MayWrite c h (k.written h) (k.seen h) p a → MayWrite c a.hart (k.written a.hart) (k.seen a.hart) p a
  own_write h p a k w = subst (λ (z : ℕ). MayWrite c z (k.written z) (k.seen z) p a) (sym w.2) w

  perform_consistent : (h : ℕ) (k : Core) (p : ℕ) (a : Operation) (k' : Core) → IsConsistent c k → Performs c h k p a k' → IsConsistent c k'
  perform_consistent h k p a k' st (inl w) = subst (IsConsistent c) (sym w.3) (writes c law k st p a (own_write h p a k w.0) w.1 w.2)
  perform_consistent h k p a k' st (inr r) = subst (IsConsistent c) (sym r.1) st

  pub one_step : (h : ℕ) (k : Core) (s : Act) (k' : Core) → IsConsistent c k → Makes c k h s k' → IsConsistent c k'
  one_step h k (See of) k' st m = subst (IsConsistent c) (sym m.1) (looks c law k st h of)
  one_step h k (Advertise upto) k' st m = subst (IsConsistent c) (sym m.1) (advertises c law k st h upto m.0.1 m.0.2)
  one_step h k (Perform number op) k' st m = perform_consistent h k m.0 m.1 k' st m.3

  count_write : (h : ℕ) (k : Core) (p : ℕ) (a : Operation) → ((v : ℕ) → k.written v ≤ writes_of c v) → MayWrite c a.hart (k.written a.hart) (k.seen a.hart) p a → (v : ℕ) → put k.written a.hart (k.written a.hart + 1) v ≤ writes_of c v
  count_write h k p a all w v = dite (ℕ_discrete v a.hart)
      (λ e. subst (λ (z : ℕ). put k.written a.hart (k.written a.hart + 1) z ≤ writes_of c z) (sym e)
      (let n : put k.written a.hart (k.written a.hart + 1) a.hart ≡ k.written a.hart + 1 = put_here k.written a.hart (k.written a.hart + 1) in
      let l : k.written a.hart + 1 ≤ writes_of c a.hart = write_counts c a.hart (k.written a.hart) p (k.seen a.hart) a w in omega arith))
      (λ e. let n : put k.written a.hart (k.written a.hart + 1) v ≡ k.written v = put_else k.written a.hart v (k.written a.hart + 1) e in let l : k.written v ≤ writes_of c v = all v in omega arith)

  abbrev Counted : Core → Type 0
  Counted k = (h : ℕ) → k.written h ≤ writes_of c h

  perform_counts : (h : ℕ) (k : Core) (p : ℕ) (a : Operation) (k' : Core) → Counted k → Performs c h k p a k' → Counted k'
  perform_counts h k p a k' all (inl w) = subst Counted (sym w.3) (count_write h k p a all (own_write h p a k w.0))
  perform_counts h k p a k' all (inr r) = subst Counted (sym r.1) all

  one_counts : (h : ℕ) (k : Core) (s : Act) (k' : Core) → Counted k → Makes c k h s k' → Counted k'
  one_counts h k (See of) k' all m = subst Counted (sym m.1) all
  one_counts h k (Advertise upto) k' all m = subst Counted (sym m.1) all
  one_counts h k (Perform number op) k' all m = perform_counts h k m.0 m.1 k' all m.3

  pub whole : (k : Core) (ss : List CoreStep) (k' : Core) → Fits k → Runs c k ss k' → Fits k'
  whole k [] k' st e = subst Fits e st
  whole k (s ∷ rest) k' st r = whole r.0 rest k' (one_step s.hart k s.act r.0 st.0 r.1, one_counts s.hart k s.act r.0 st.1 r.1) r.2

  pub reached_fits : (ss : List CoreStep) (k : Core) → IsReached c ss k → Fits k
  reached_fits ss k r = whole (opening_core c) ss k (opens c law, λ h. omega arith) r

  pub reached_consistent : (ss : List CoreStep) (k : Core) → IsReached c ss k → IsConsistent c k
  reached_consistent ss k r = (reached_fits ss k r).0

  -- at the end all writes are performed
  pub finished_words : (k : Core) → IsConsistent c k → IsFinished c k → (w j : ℕ) → 9 ≤ w → w < length c.opening → j < 4 → lane j (k.word w) ≡ last_lane c w j
  finished_words k st end w j low high four = st.0.words w j low high four
      ∙ left_same (done_by c k.written) (λ p a. true) 0 c.operations w j (lane j (slice_index c.opening w))
      (λ i q a at e wr on cov. let inside = law.inside i a at in
      let told : k.progress a.hart ≡ length_of c a.hart = end a.hart inside.hart in
      let top : a.number ≤ length_of c a.hart = inside.number in
      let done : rank a.hart c.operations i < k.written a.hart = (st.1.passed a.hart).2 i a at refl wr (omega arith) in
      subst (λ (z : ℕ). done_by c k.written z a ≡ true) (omega arith) (lt-ltb (rank a.hart c.operations i) (k.written a.hart) done))

  other_step : (h g : ℕ) (k : Core) (s : Act) (k' : Core) → g ≢ h → Makes c k g s k' → Same h k k'
  other_step h g k (See of) k' ne m = subst (λ (z : Core). Same h k z) (sym m.1) (record { written = refl; progress = refl; seen = put_else k.seen g h (put (k.seen g) of (k.progress of)) (λ e. ne (sym e)) })
  other_step h g k (Advertise upto) k' ne m = subst (λ (z : Core). Same h k z) (sym m.1) (record { written = refl; progress = put_else k.progress g h upto (λ e. ne (sym e)); seen = refl })
  other_step h g k (Perform number op) k' ne m = by m.3
    where
      by : Performs c g k m.0 m.1 k' → Same h k k'
      by (inl w) = subst (λ (z : Core). Same h k z) (sym w.3) (record { written = put_else k.written m.1.hart h (k.written m.1.hart + 1) (λ e. ne (sym (e ∙ w.0.2))); progress = refl; seen = refl })
      by (inr r) = subst (λ (z : Core). Same h k z) (sym r.1) (record { written = refl; progress = refl; seen = refl })

  abbrev ReadAt : ℕ → ℕ → Operation → Core → Type 0
  ReadAt h p a k = IsOpen c k h p a

  -- what a read that is allowed before and after a step finds is the plan's value both times
  stays : (h p : ℕ) (a : Operation) (k k' : Core) → IsConsistent c k → IsConsistent c k' → ReadAt h p a k → ReadAt h p a k' → StaysOpen c h p a k k'
  stays h p a k k' st st' r r' = (r', λ j four cov. reads c law k' st' h p a r' j four cov ∙ sym (reads c law k st h p a r j four cov))

  pub read_after_other : (h p : ℕ) (a : Operation) (k : Core) → IsConsistent c k → ReadAt h p a k → (s : CoreStep) (k' : Core) → Makes c k s.hart s.act k' → s.hart ≢ h → StaysOpen c h p a k k'
  read_after_other h p a k st r s k' m ne = stays h p a k k' st (one_step s.hart k s.act k' st m) r
      (let e = other_step h s.hart k s.act k' ne m in
      subst (λ (z : ℕ × ℕ × (ℕ → ℕ)). MayRead c h z.0 z.1 z.2 p a) (λ i. (sym e.written i, sym e.progress i, sym e.seen i)) r)

  sees_up : (k : Core) (h of : ℕ) → IsConsistent c k → (u : ℕ) → k.seen h u ≤ put k.seen h (put (k.seen h) of (k.progress of)) h u
  sees_up k h of st u = subst (λ (f : ℕ → ℕ). k.seen h u ≤ f u) (sym (put_here k.seen h (put (k.seen h) of (k.progress of))))
      (dite (ℕ_discrete u of)
      (λ e. subst (λ (z : ℕ). k.seen h z ≤ put (k.seen h) of (k.progress of) z) (sym e) (let n : put (k.seen h) of (k.progress of) of ≡ k.progress of = put_here (k.seen h) of (k.progress of) in let o : k.seen h of ≤ k.progress of = st.1.seen h of in omega arith))
      (λ e. let n : put (k.seen h) of (k.progress of) u ≡ k.seen h u = put_else (k.seen h) of u (k.progress of) e in omega arith))

  own_step : (h p : ℕ) (a : Operation) (k : Core) → IsConsistent c k → ReadAt h p a k → (s : Act) (k' : Core) → Makes c k h s k' → LeavesRead c h a s → ReadAt h p a k'
  own_step h p a k st r (See of) k' m leaves = subst (ReadAt h p a) (sym m.1) (read_after_see c h p a (k.written h) (k.progress h) (k.seen h) (put k.seen h (put (k.seen h) of (k.progress of)) h) (sees_up k h of st) r)
  own_step h p a k st r (Advertise upto) k' m leaves = subst (ReadAt h p a) (sym m.1) (r.0, r.1, r.2, r.3, (let n : put k.progress h upto h ≡ upto = put_here k.progress h upto in let l : upto < a.number = leaves in omega arith), r.5)
  own_step h p a k st r (Perform number op) k' m leaves = by m.3
    where
      by : Performs c h k m.0 m.1 k' → ReadAt h p a k'
      by (inl w) = subst (ReadAt h p a) (sym w.3)
          (subst (λ (z : ℕ). MayRead c h z (k.progress h) (k.seen h) p a) (sym (ap (λ (z : ℕ). put k.written z (k.written z + 1) h) w.0.2 ∙ put_here k.written h (k.written h + 1)))
          (read_after_write c h p m.0 a m.1 (k.written h) (k.progress h) (k.seen h) r w.0.0 w.0.1 w.0.2 w.0.3 (leaves m.0 m.1 w.0.0 m.2 w.0.1)))
      by (inr q) = subst (ReadAt h p a) (sym q.1) r

  pub read_after_own : (h p : ℕ) (a : Operation) (k : Core) → IsConsistent c k → ReadAt h p a k → (s : CoreStep) (k' : Core) → Makes c k s.hart s.act k' → s.hart ≡ h → LeavesRead c h a s.act → StaysOpen c h p a k k'
  read_after_own h p a k st r s k' m e leaves = stays h p a k k' st (one_step s.hart k s.act k' st m) r (own_step h p a k st r s.act k' (subst (λ (z : ℕ). Makes c k z s.act k') e m) leaves)

  -- hart h may make a step that changes the state, for no record above m
  abbrev pub MovesUpTo : Core → ℕ → ℕ → Type 0
  MovesUpTo k h m = (s : CoreStep) × (k' : Core) × Makes c k s.hart s.act k' × (k' ≢ k) × (s.hart ≡ h) × IsUpTo m s.act

  pub moving : (k : Core) (h m : ℕ) → Mover c k h m → MovesUpTo k h m
  moving k h m (sees_more u low other apart up) = (
    record { hart = h; act = See u },
    after_see k h u,
    ((low, other, apart), refl),
    (λ e. let n : put k.seen h (put (k.seen h) u (k.progress u)) h u ≡ k.seen h u = ap (λ (z : Core). z.seen h u) e in
        let x : put k.seen h (put (k.seen h) u (k.progress u)) h u ≡ put (k.seen h) u (k.progress u) u = ap (λ (f : ℕ → ℕ). f u) (put_here k.seen h (put (k.seen h) u (k.progress u))) in
        let y : put (k.seen h) u (k.progress u) u ≡ k.progress u = put_here (k.seen h) u (k.progress u) in omega arith),
    refl,
    tt,
  )
  moving k h m (tells_more low up may) = (
    record { hart = h; act = Advertise m },
    after_advertise k h m,
    ((low, (let l : k.progress h < m = up in omega arith), may), refl),
    (λ e. let n : put k.progress h m h ≡ k.progress h = ap (λ (z : Core). z.progress h) e in let x : put k.progress h m h ≡ m = put_here k.progress h m in omega arith),
    refl,
    omega arith,
  )
  moving k h m (writes_more p a may low) = (
    record { hart = h; act = Perform a.number a.op },
    after_write k a (landed a.what (k.word a.what.word)),
    (p, a, (may.2, refl, refl), inl (may, landed a.what (k.word a.what.word), lands a.what (k.word a.what.word), refl)),
    (λ e. let n : put k.written a.hart (k.written a.hart + 1) a.hart ≡ k.written a.hart = ap (λ (z : Core). z.written a.hart) e in let x : put k.written a.hart (k.written a.hart + 1) a.hart ≡ k.written a.hart + 1 = put_here k.written a.hart (k.written a.hart + 1) in omega arith),
    refl,
    low,
  )

  -- a hart that has not advertised all its records
  pub short_hart : (k : Core) → IsConsistent c k → (IsFinished c k → ⊥) → (h : ℕ) × (k.progress h < length_of c h)
  short_hart k st unfinished = ⊎_elim
      (λ (all : (h : ℕ) → h < c.log.harts → k.progress h ≡ length_of c h). absurd (unfinished all))
      (λ (t : (h : ℕ) × (h < c.log.harts) × (k.progress h < length_of c h)). (t.0, t.2))
      (below_or_one (λ h. k.progress h ≡ length_of c h) (λ h. k.progress h < length_of c h) c.log.harts
      (λ h low. let top : k.progress h ≤ length_of c h = (st.1.passed h).0 in dite (ℕ_discrete (k.progress h) (length_of c h)) inl (λ n. inr (let o : k.progress h ≡ length_of c h → ⊥ = n in omega arith))))

  pub can_change : (k : Core) → IsConsistent c k → (IsFinished c k → ⊥) → HasMove c k
  can_change k st unfinished =
      let t = short_hart k st unfinished in
      first_untold c law k st (HasMove c k)
      (λ i h m l told is next. (let x : MovesUpTo k h m = moving k h m (moves_here c law k st i h m l told is next) in (x.0, x.1, x.2, x.3))) t.0 t.1

  raises : (h : ℕ) (k : Core) (s : Act) (k' : Core) → IsConsistent c k → Makes c k h s k' → k' ≢ k → height c k < height c k'
  raises h k (See of) k' st m ne = subst (λ (z : Core). height c k < height c z) (sym m.1)
      (see_raises c k h of m.0.0 m.0.1 m.0.2 (let o : k.seen h of ≤ k.progress of = st.1.seen h of in
      let n : k.progress of ≡ k.seen h of → ⊥ = λ e. ne (m.1 ∙ ap (λ (f : ℕ → ℕ → ℕ). record k { seen = f }) (put_same k.seen h (put (k.seen h) of (k.progress of)) (put_same (k.seen h) of (k.progress of) e))) in omega arith))
  raises h k (Advertise upto) k' st m ne = subst (λ (z : Core). height c k < height c z) (sym m.1)
      (advertise_raises c k h upto m.0.0 (let o : k.progress h ≤ upto = m.0.1 in
      let n : upto ≡ k.progress h → ⊥ = λ e. ne (m.1 ∙ ap (λ (f : ℕ → ℕ). record k { progress = f }) (put_same k.progress h upto e)) in omega arith))
  raises h k (Perform number op) k' st m ne = by m.3
    where
      by : Performs c h k m.0 m.1 k' → height c k < height c k'
      by (inl w) = subst (λ (z : Core). height c k < height c z) (sym w.3) (write_raises c k m.1 w.1 (law.inside m.0 m.1 w.0.0).hart)
      by (inr r) = absurd (ne r.1)

  climbs : (k : Core) (ss : List CoreStep) (k' : Core) → Fits k → MovesAlong c k ss k' → Fits k' × (height c k + length ss ≤ height c k')
  climbs k [] k' st e = (subst Fits e st, subst (λ (z : Core). height c k + 0 ≤ height c z) e (omega arith))
  climbs k (s ∷ rest) k' st m =
      let t = climbs m.0 rest k' (one_step s.hart k s.act m.0 st.0 m.1, one_counts s.hart k s.act m.0 st.1 m.1) m.3 in
      let up : height c k < height c m.0 = raises s.hart k s.act m.0 st.0 m.1 m.2 in
      let rise : height c m.0 + length rest ≤ height c k' = t.1 in
      (t.0, omega arith)

  pub few_moves : (k : Core) → Fits k → (ss : List CoreStep) (k' : Core) → MovesAlong c k ss k' → length ss ≤ most_moves c
  few_moves k st ss k' m =
      let t = climbs k ss k' st m in
      let rise : height c k + length ss ≤ height c k' = t.1 in
      let top : height c k' ≤ most_moves c = below c k' t.0.0 t.0.1 in
      omega arith

-- A hart that has ended counts as one that has performed all its writes and seen each progress word.
use Rattle.std.proofs.Common.{◌≡◌, ℕ, ◌<◌, ◌≤◌, true, length, slice_index, refl, sym, ◌∙◌, subst, arith}
use mathlib.Core.Logic.{dite}
use native.Mathlib.Decide.{ℕ_discrete}
use Rattle.pl_event.specs.Needs.{IsNeed}
use Rattle.order_core.specs.declared.course.Course.{Course}
use Rattle.order_core.specs.declared.course.Operation.{Operation}
use Rattle.order_core.specs.Lanes.{lane}
use Rattle.order_core.specs.Course.{At, rank, left_by, length_of, writes_of}
use Rattle.order_core.specs.Lawful.{IsLawful}
use Rattle.order_core.specs.Core.{Core, done_by, IsDone, IsMet, IsPassed, IsConsistent, put}
use Rattle.order_core.specs.Freed.{HasEnded, after_free}
use Rattle.order_core.proofs.Flatten.{inside}
use Rattle.order_core.proofs.Ranks.{put_here, put_else, same_test, is_write, rank_lt, left_same}

module _ (c : Course) (k : Core) (st : IsConsistent c k) (h : ℕ) (ended : HasEnded c k h) where
  -- the needs of a hart that has ended are advertised
  pub needs_told : (u n m : ℕ) → IsNeed c.log.lines u n h m → m ≤ length_of c h → n ≤ k.progress u
  needs_told u n m need low =
      let end : k.progress h ≡ length_of c h = ended in
      let met : n ≤ k.seen h u = (st.1.passed h).1 u n m need (omega arith) in
      let up : k.seen h u ≤ k.progress u = st.1.seen h u in
      omega arith

  -- each write of the hart is among its writes
  counted : (p : ℕ) (a : Operation) → At c p a → a.hart ≡ h → a.what.write ≡ true → rank h c.operations p < writes_of c h
  counted p a at own w = rank_lt h c.operations p (length c.operations) a at (is_write h a w own) (inside c.operations p a at)

  pub passed : IsPassed c (writes_of c h) k.progress h (length_of c h)
  passed = (omega arith, needs_told, λ p a at own w low. counted p a at own w)

  module _ (law : IsLawful c) where
    abbrev wrote : ℕ → ℕ
    wrote = put k.written h (writes_of c h)

    abbrev saw : ℕ → ℕ → ℕ
    saw = put k.seen h k.progress

    -- all writes of the hart are performed
    all_done : (p : ℕ) (a : Operation) → At c p a → a.what.write ≡ true → a.hart ≡ h → IsDone c k.written p a
    all_done p a at w own =
        let end : k.progress a.hart ≡ length_of c a.hart = subst (λ (z : ℕ). k.progress z ≡ length_of c z) (sym own) ended in
        let top : a.number ≤ length_of c a.hart = (law.inside p a at).number in
        (st.1.passed a.hart).2 p a at refl w (omega arith)

    up : (p : ℕ) (a : Operation) → At c p a → a.what.write ≡ true → IsDone c k.written p a → IsDone c wrote p a
    up p a at w d = dite (ℕ_discrete a.hart h)
        (λ own. subst (λ (z : ℕ). rank z c.operations p < wrote z) (sym own)
        (let e : wrote h ≡ writes_of c h = put_here k.written h (writes_of c h) in
        let l : rank h c.operations p < writes_of c h = counted p a at own w in
        omega arith))
        (λ other. let e : wrote a.hart ≡ k.written a.hart = put_else k.written h a.hart (writes_of c h) other in omega arith)

    down : (p : ℕ) (a : Operation) → At c p a → a.what.write ≡ true → IsDone c wrote p a → IsDone c k.written p a
    down p a at w d = dite (ℕ_discrete a.hart h) (all_done p a at w)
        (λ other. let e : wrote a.hart ≡ k.written a.hart = put_else k.written h a.hart (writes_of c h) other in omega arith)

    words : (w j : ℕ) → 9 ≤ w → w < length c.opening → j < 4 → lane j (k.word w) ≡ left_by c (done_by c wrote) w j
    words w j low high four = st.0.words w j low high four
        ∙ left_same (done_by c k.written) (done_by c wrote) 0 c.operations w j (lane j (slice_index c.opening w))
        (λ i q a at e wr on cov. subst (λ (z : ℕ). done_by c k.written z a ≡ done_by c wrote z a) (omega arith)
        (same_test (rank a.hart c.operations i) (k.written a.hart) (rank a.hart c.operations i) (wrote a.hart) (up i a at wr) (down i a at wr)))

    seen_up : (g u : ℕ) → k.seen g u ≤ saw g u
    seen_up g u = dite (ℕ_discrete g h)
        (λ own. subst (λ (z : ℕ). k.seen z u ≤ saw z u) (sym own) (subst (λ (f : ℕ → ℕ). k.seen h u ≤ f u) (sym (put_here k.seen h k.progress)) (st.1.seen h u)))
        (λ other. subst (λ (f : ℕ → ℕ). k.seen g u ≤ f u) (sym (put_else k.seen h g k.progress other)) (omega arith))

    seen_below : (g u : ℕ) → saw g u ≤ k.progress u
    seen_below g u = dite (ℕ_discrete g h)
        (λ own. subst (λ (z : ℕ). saw z u ≤ k.progress u) (sym own) (subst (λ (f : ℕ → ℕ). f u ≤ k.progress u) (sym (put_here k.seen h k.progress)) (omega arith)))
        (λ other. subst (λ (f : ℕ → ℕ). f u ≤ k.progress u) (sym (put_else k.seen h g k.progress other)) (st.1.seen g u))

    met_up : (g n : ℕ) → IsMet c (k.seen g) g n → IsMet c (saw g) g n
    met_up g n met u o j need l = let b : o ≤ k.seen g u = met u o j need l in let s : k.seen g u ≤ saw g u = seen_up g u in omega arith

    pub frees : IsConsistent c (after_free c k h)
    frees = (
      record {
        writes = λ p q a b x y l w v on d. up q b y v (st.0.writes p q a b x y l w v on (down p a x w d));
        reads = λ p q a b x y l w r on other d. st.0.reads p q a b x y l w r on other (down p a x w d);
        words = words;
      },
      record {
        passed = λ g. let o = st.1.passed g in (
          o.0,
          met_up g (k.progress g) o.1,
          λ p a at own w n.
              subst (λ (z : ℕ). rank z c.operations p < wrote z) own (up p a at w (subst (λ (z : ℕ). rank z c.operations p < k.written z) (sym own) (o.2 p a at own w n))),
        );
        seen = seen_below;
        met = λ p a at w d. met_up a.hart a.number (st.1.met p a at w (down p a at w d));
      },
    )

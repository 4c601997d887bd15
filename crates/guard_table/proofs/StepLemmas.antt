-- The steps of a hart's seat are steps of the core.
use Rattle.std.proofs.Common.{◌≡◌, ◌≢◌, ℕ, ◌+◌, ◌<◌, ◌≤◌, true, List, length, get_or, set, refl, sym, ap, ◌∙◌, subst, inl, inr, ⊎_elim, arith, length-set, get_or-set_same, get_or-set_other}
use Rattle.std.proofs.lemmas.List.{set-get_or}
use Rattle.std.specs.List.{Contains}
use mathlib.Core.Option.{some}
use mathlib.Core.Logic.{dite}
use native.Mathlib.Decide.{ℕ_discrete}
use lib.ListN.{get_elem?}
use Rattle.atomic_table.proofs.Lists.{at_set}
use Rattle.order_core.specs.declared.course.Course.{Course}
use Rattle.order_core.specs.declared.course.Operation.{Operation}
use Rattle.order_core.specs.declared.steps.Act.TheVariants.{See, Advertise, Perform}
use Rattle.order_core.specs.Lanes.{lane, covers, HasValueOf, Lands}
use Rattle.order_core.specs.Course.{rank, length_of, lane_before}
use Rattle.order_core.specs.Lawful.{IsLawful, IsInside}
use Rattle.order_core.specs.Core.{Core, IsMet, IsPassed, IsOpen, IsNextWrite, IsConsistent, put, after_see, after_advertise, after_write}
use Rattle.order_core.specs.Runs.{Makes}
use Rattle.order_core.proofs.Known.{known}
use Rattle.order_core.proofs.KnownLaws as core
use Rattle.order_core.proofs.Ranks.{put_here, put_else}
use Rattle.guard_table.specs.declared.view.View.{View}
use Rattle.guard_table.specs.declared.view.Role.TheVariants.{OfHead, OfHart, OfNote}
use Rattle.guard_table.specs.Views.{looked, advertised, wrote, known_core, HasEight}
use Rattle.guard_table.specs.Rule.{Table, HasView, IsOfHart, IsTrueView, AreApart, Represents}
use Rattle.guard_table.specs.Laws.{after_step}

module _ (c : Course) where
  -- what the other seats know stays true where hart h alone moves
  others_true : (k k' : Core) (h : ℕ)
      → ((g : ℕ) → g ≢ h → (k'.written g ≡ k.written g) × (k'.progress g ≡ k.progress g) × ((u : ℕ) → k'.seen g u ≡ k.seen g u))
      → ((g : ℕ) → k.progress g ≤ k'.progress g)
      → (k.progress h ≡ length_of c h → k'.progress h ≡ length_of c h)
      → (v : View) → v.role ≡ OfHart → v.hart ≡ h → (u : View) → AreApart v u → IsTrueView c k u → IsTrueView c k' u
  others_true k k' h same up full v of_hart own u apart fits = record {
    head = λ l. let o = fits.head l in let mine : Contains u.made h = subst (Contains u.made) own (apart.made of_hart l) in record {
      course = o.course;
      idle = λ g none. let i = o.idle g none in
          let other : g ≢ h = λ e. none (subst (Contains u.made) (sym e) mine) in
          let s = same g other in (s.0 ∙ i.0, s.1 ∙ i.1, λ x. s.2 x ∙ i.2 x);
      ended = λ g yes. dite (ℕ_discrete g h) (λ e. subst (λ (z : ℕ). k'.progress z ≡ length_of c z) (sym e) (full (subst (λ (z : ℕ). k.progress z ≡ length_of c z) e (o.ended g yes)))) (λ n. (same g n).1 ∙ o.ended g yes);
    };
    hart = λ l. let o = fits.hart l in let other : u.hart ≢ h = λ e. apart.harts of_hart l (own ∙ sym e) in let s = same u.hart other in record {
      course = o.course;
      hart = o.hart;
      written = s.0 ∙ o.written;
      progress = s.1 ∙ o.progress;
      seen = λ x. s.2 x ∙ o.seen x;
      learnt = λ x. let a : get_or u.learnt x 0 ≤ k.progress x = o.learnt x in let b : k.progress x ≤ k'.progress x = up x in omega arith;
    };
    note = λ l. let o = fits.note l in record {
      course = o.course;
      hart = o.hart;
      progress = let a : u.progress ≤ k.progress u.hart = o.progress in let b : k.progress u.hart ≤ k'.progress u.hart = up u.hart in omega arith;
    };
  }

  apart_like : (v w u : View) → w.role ≡ v.role → w.hart ≡ v.hart → w.made ≡ v.made → AreApart v u → AreApart w u
  apart_like v w u r h m a = record {
    heads = λ x y. a.heads (sym r ∙ x) y;
    harts = λ x y e. a.harts (sym r ∙ x) y (sym h ∙ e);
    made = λ x y. subst (Contains u.made) (sym h) (a.made (sym r ∙ x) y);
  }

  apart_from : (v w u : View) → w.role ≡ v.role → w.hart ≡ v.hart → w.made ≡ v.made → AreApart u v → AreApart u w
  apart_from v w u r h m a = record {
    heads = λ x y. a.heads x (sym r ∙ y);
    harts = λ x y e. a.harts x (sym r ∙ y) (e ∙ h);
    made = λ x y. subst (λ (z : List ℕ). Contains z u.hart) (sym m) (a.made x (sym r ∙ y));
  }

  -- one seat's view changes, and the state of the core with it
  pub moved : (s : Table) (k : Core) (r : Represents c k s) (id : ℕ) (v w : View) (k' : Core) (ws : List ℕ)
      → HasView s id v → w.role ≡ v.role → w.hart ≡ v.hart → w.made ≡ v.made
      → IsConsistent c k' → length ws ≡ length c.opening
      → ((h : ℕ) → h < c.log.harts → get_or ws (h + 1) 0 ≡ k'.progress h)
      → ((x : ℕ) → 9 ≤ x → x < length c.opening → get_or ws x 0 ≡ k'.word x)
      → IsTrueView c k' w
      → ((u : View) → AreApart v u → IsTrueView c k u → IsTrueView c k' u)
      → Represents c k' record { words = ws; homes = s.homes; views = set s.views id w }
  moved s k r id v w k' ws at role hart made consistent size progress words mine others = record {
    consistent = consistent;
    size = size;
    progress = progress;
    words = words;
    each = λ j u e. ⊎_elim (λ (t : (j ≡ id) × (w ≡ u)). subst (IsTrueView c k') t.1 mine)
        (λ (t : (j ≢ id) × (get_elem? s.views j ≡ some u)). others u (r.apart id j v u at t.1 (λ z. t.0 (sym z))) (r.each j u t.1)) (at_set s.views id j w u e);
    apart = λ i j x y e f n. ⊎_elim
        (λ (t : (i ≡ id) × (w ≡ x)). ⊎_elim (λ (q : (j ≡ id) × (w ≡ y)). absurd (n (t.0 ∙ sym q.0)))
        (λ (q : (j ≢ id) × (get_elem? s.views j ≡ some y)). subst (λ (z : View). AreApart z y) t.1 (apart_like v w y role hart made (r.apart id j v y at q.1 (λ z. q.0 (sym z))))) (at_set s.views id j w y f))
        (λ (t : (i ≢ id) × (get_elem? s.views i ≡ some x)). ⊎_elim (λ (q : (j ≡ id) × (w ≡ y)). subst (λ (z : View). AreApart x z) q.1 (apart_from v w x role hart made (r.apart i id x v t.1 at t.0)))
        (λ (q : (j ≢ id) × (get_elem? s.views j ≡ some y)). r.apart i j x y t.1 q.1 n) (at_set s.views id j w y f))
        (at_set s.views id i w x e);
  }

  pub true_of_hart : (k : Core) (v : View) → v.role ≡ OfHart → IsOfHart c k v → IsTrueView c k v
  true_of_hart k v role is = record {
    head = λ l. absurd (let e : OfHart ≡ OfHead = sym role ∙ l in cc);
    hart = λ _. is;
    note = λ l. absurd (let e : OfHart ≡ OfNote = sym role ∙ l in cc);
  }

  met_as : (f g : ℕ → ℕ) (h m : ℕ) → ((u : ℕ) → f u ≡ g u) → IsMet c f h m → IsMet c g h m
  met_as f g h m same met u n k need l = let o : n ≤ f u = met u n k need l in let s : f u ≡ g u = same u in omega arith

  module _ (law : ∥ IsLawful c ∥₁) (s : Table) (k : Core) (r : Represents c k s) (id : ℕ) (v : View) (at : HasView s id v) (role : v.role ≡ OfHart) where
    pub own : IsOfHart c k v
    own = (r.each id v at).hart role

    -- a load of the progress word of another hart is a look of the core
    module _ (eight : HasEight v) (x : ℕ) (inside : x < c.log.harts) where
      abbrev n : ℕ
      n = get_or s.words (x + 1) 0

      abbrev after : Core
      after = after_see k v.hart x

      found : n ≡ k.progress x
      found = r.progress x inside

      pub see_makes : x ≢ v.hart → Makes c k v.hart (See x) after
      see_makes other = ((own.hart, inside, other), refl)

      pub see_finds : (get_or v.seen x 0 ≤ n) × (get_or v.learnt x 0 ≤ n)
      see_finds =
          let f : n ≡ k.progress x = found in (
            (let a : k.seen v.hart x ≡ get_or v.seen x 0 = own.seen x in let b : k.seen v.hart x ≤ k.progress x = r.consistent.1.seen v.hart x in omega arith),
            (let a : get_or v.learnt x 0 ≤ k.progress x = own.learnt x in omega arith),
          )

      mine : IsOfHart c after (looked x n v)
      mine = let few : c.log.harts ≤ 8 = (known c law).harts in record {
        course = own.course;
        hart = own.hart;
        written = own.written;
        progress = own.progress;
        seen = λ y. subst (λ (f : ℕ → ℕ). f y ≡ get_or (set v.seen x n) y 0) (sym (put_here k.seen v.hart (put (k.seen v.hart) x (k.progress x))))
            (dite (ℕ_discrete y x)
            (λ e. subst (λ (z : ℕ). put (k.seen v.hart) x (k.progress x) z ≡ get_or (set v.seen x n) z 0) (sym e)
            (put_here (k.seen v.hart) x (k.progress x) ∙ (sym found ∙ sym (get_or-set_same v.seen x n 0 (let wd : length v.seen ≡ 8 = eight.0 in omega arith)))))
            (λ ne. put_else (k.seen v.hart) x y (k.progress x) ne ∙ (own.seen y ∙ sym (get_or-set_other v.seen x y n 0 ne))));
        learnt = own.learnt;
      }

      pub see_represents : Represents c after (after_step s id (x + 1) n (looked x n v))
      see_represents =
          subst (λ (ws : List ℕ). Represents c after record { words = ws; homes = s.homes; views = set s.views id (looked x n v) }) (sym (set-get_or s.words (x + 1) 0))
          (moved s k r id v (looked x n v) after s.words at refl refl refl (core.sees c law k r.consistent v.hart x) r.size r.progress r.words (true_of_hart after (looked x n v) role mine)
          (others_true k after v.hart (λ g ne. (refl, refl, λ u. ap (λ (f : ℕ → ℕ). f u) (put_else k.seen v.hart g (put (k.seen v.hart) x (k.progress x)) ne))) (λ g. omega arith) (λ e. e) v role refl))

    abbrev seen_by : ℕ → ℕ
    seen_by u = get_or v.seen u 0

    met_here : (m : ℕ) → IsMet c seen_by v.hart m → IsMet c (k.seen v.hart) v.hart m
    met_here m met = met_as seen_by (k.seen v.hart) v.hart m (λ u. sym (own.seen u)) met

    -- a store of the own progress word is an advertisement of the core
    module _ (upto : ℕ) (rises : v.progress ≤ upto) (passed : IsPassed c v.written seen_by v.hart upto) where
      abbrev told : Core
      told = after_advertise k v.hart upto

      rise : k.progress v.hart ≤ upto
      rise = let was : k.progress v.hart ≡ v.progress = own.progress in omega arith

      core_passed : IsPassed c (k.written v.hart) (k.seen v.hart) v.hart upto
      core_passed = (
        passed.0,
        met_here upto passed.1,
        λ p a is mine wr low. let written : k.written v.hart ≡ v.written = own.written in let o : rank v.hart c.operations p < v.written = passed.2 p a is mine wr low in omega arith,
      )

      up : (g : ℕ) → k.progress g ≤ put k.progress v.hart upto g
      up g = dite (ℕ_discrete g v.hart)
          (λ e. subst (λ (z : ℕ). k.progress z ≤ put k.progress v.hart upto z) (sym e) (let n : put k.progress v.hart upto v.hart ≡ upto = put_here k.progress v.hart upto in let r' : k.progress v.hart ≤ upto = rise in omega arith))
          (λ e. let n : put k.progress v.hart upto g ≡ k.progress g = put_else k.progress v.hart g upto e in omega arith)

      pub advertise_makes : Makes c k v.hart (Advertise upto) told
      advertise_makes = ((own.hart, rise, core_passed), refl)

      told_mine : IsOfHart c told (advertised upto v)
      told_mine = record {
        course = own.course;
        hart = own.hart;
        written = own.written;
        progress = put_here k.progress v.hart upto;
        seen = own.seen;
        learnt = λ x. let a : get_or v.learnt x 0 ≤ k.progress x = own.learnt x in let b : k.progress x ≤ put k.progress v.hart upto x = up x in omega arith;
      }

      pub advertise_represents : Represents c told (after_step s id (v.hart + 1) upto (advertised upto v))
      advertise_represents =
          let few : c.log.harts ≤ 8 = (known c law).harts in
          let many : 9 ≤ length c.opening = (core.table c law).size.0 in
          let inside : v.hart < c.log.harts = own.hart in
          let size : length s.words ≡ length c.opening = r.size in
          moved s k r id v (advertised upto v) told (set s.words (v.hart + 1) upto) at refl refl refl (core.advertises c law k r.consistent v.hart upto rise core_passed) (length-set s.words (v.hart + 1) upto ∙ r.size)
          (λ g lt. dite (ℕ_discrete g v.hart)
          (λ e. subst (λ (z : ℕ). get_or (set s.words (v.hart + 1) upto) (z + 1) 0 ≡ put k.progress v.hart upto z) (sym e)
          (get_or-set_same s.words (v.hart + 1) upto 0 (omega arith) ∙ sym (put_here k.progress v.hart upto)))
          (λ e. get_or-set_other s.words (v.hart + 1) (g + 1) upto 0 (λ z. e (omega arith)) ∙ (r.progress g lt ∙ sym (put_else k.progress v.hart g upto e))))
          (λ x low high. get_or-set_other s.words (v.hart + 1) x upto 0 (λ z. omega arith) ∙ r.words x low high)
          (true_of_hart told (advertised upto v) role told_mine)
          (others_true k told v.hart (λ g ne. (refl, put_else k.progress v.hart g upto ne, λ u. refl)) up (λ e. put_here k.progress v.hart upto ∙ (let a : upto ≤ length_of c v.hart = passed.0 in let b : k.progress v.hart ≤ upto = rise in omega arith)) v role refl)

    -- a load of another word performs a read
    module _ (p : ℕ) (a : Operation) (may : IsOpen c (known_core v) v.hart p a) where
      core_open : IsOpen c k v.hart p a
      core_open =
          let written : k.written v.hart ≡ v.written = own.written in
          let progress : k.progress v.hart ≡ v.progress = own.progress in (
            may.0,
            may.1,
            may.2,
            met_here a.number may.3,
            (let o : v.progress < a.number = may.4 in omega arith),
            λ q b is w mine on. let o = may.5 q b is w mine on in (
              (λ l. o.0 (let l' : rank v.hart c.operations q < k.written v.hart = l in omega arith)),
              (λ l. let o' : rank v.hart c.operations q < v.written = o.1 l in omega arith),
            ),
          )

      pub read_makes : Makes c k v.hart (Perform a.number a.op) k
      read_makes = (p, a, (may.2, refl, refl), inr (core_open, refl))

      pub read_finds : HasValueOf a.what (get_or s.words a.what.word 0)
      read_finds j four cov =
          let inside = (known c law).inside p a may.0 in
          ap (lane j) (r.words a.what.word inside.what.low inside.what.high) ∙ core.read_finds c law k r.consistent v.hart p a core_open j four cov

    -- a load of a word leaves words and views as they are
    pub load_represents : (i : ℕ) → Represents c k (after_step s id i (get_or s.words i 0) v)
    load_represents i = subst (λ (ws : List ℕ). Represents c k record { words = ws; homes = s.homes; views = set s.views id v }) (sym (set-get_or s.words i 0))
        (moved s k r id v v k s.words at refl refl refl r.consistent r.size r.progress r.words (r.each id v at) (λ u apart is. is))

    -- a store to another word performs a write, where the word then has the value in the lanes of the write
    module _ (p : ℕ) (a : Operation) (next : IsNextWrite c (known_core v) v.hart p a) (f : ℕ → ℕ)
        (lands : (x : ℕ) → ((j : ℕ) → j < 4 → covers a.what.lanes j ≡ true → lane j x ≡ lane_before c p a.what.word j) → Lands a.what x (f x)) where
      abbrev x0 : ℕ
      x0 = get_or s.words a.what.word 0

      abbrev written_core : Core
      written_core = after_write k a (f x0)

      core_next : IsNextWrite c k v.hart p a
      core_next = (next.0, next.1, next.2, next.3 ∙ sym own.written, met_here a.number next.4)

      within : IsInside c a
      within = (known c law).inside p a next.0

      held : x0 ≡ k.word a.what.word
      held = r.words a.what.word within.what.low within.what.high

      landed : Lands a.what (k.word a.what.word) (f x0)
      landed = subst (λ (z : ℕ). Lands a.what z (f x0)) held (lands x0 (λ j four cov. ap (lane j) held ∙ core.write_finds c law k r.consistent v.hart p a core_next j four cov))

      pub write_makes : Makes c k v.hart (Perform a.number a.op) written_core
      write_makes = (p, a, (next.2, refl, refl), inl (core_next, f x0, landed, refl))

      written_mine : IsOfHart c written_core (wrote v)
      written_mine = record {
        course = own.course;
        hart = own.hart;
        written = subst (λ (z : ℕ). put k.written z (k.written z + 1) v.hart ≡ v.written + 1) (sym next.2) (put_here k.written v.hart (k.written v.hart + 1) ∙ ap (λ (z : ℕ). z + 1) own.written);
        progress = own.progress;
        seen = own.seen;
        learnt = own.learnt;
      }

      pub write_represents : Represents c written_core (after_step s id a.what.word (f x0) (wrote v))
      write_represents =
          let few : c.log.harts ≤ 8 = (known c law).harts in
          let size : length s.words ≡ length c.opening = r.size in
          let low : 9 ≤ a.what.word = within.what.low in
          let high : a.what.word < length c.opening = within.what.high in
          moved s k r id v (wrote v) written_core (set s.words a.what.word (f x0)) at refl refl refl (core.writes c law k r.consistent v.hart p a core_next (f x0) landed) (length-set s.words a.what.word (f x0) ∙ r.size)
          (λ g lt. get_or-set_other s.words a.what.word (g + 1) (f x0) 0 (λ z. omega arith) ∙ r.progress g lt)
          (λ x l h. dite (ℕ_discrete x a.what.word)
          (λ e. subst (λ (z : ℕ). get_or (set s.words a.what.word (f x0)) z 0 ≡ put k.word a.what.word (f x0) z) (sym e)
          (get_or-set_same s.words a.what.word (f x0) 0 (omega arith) ∙ sym (put_here k.word a.what.word (f x0))))
          (λ e. get_or-set_other s.words a.what.word x (f x0) 0 e ∙ (r.words x l h ∙ sym (put_else k.word a.what.word x (f x0) e))))
          (true_of_hart written_core (wrote v) role written_mine)
          (others_true k written_core a.hart (λ g ne. (put_else k.written a.hart g (k.written a.hart + 1) ne, refl, λ u. refl)) (λ g. omega arith) (λ e. e) v role (sym next.2))

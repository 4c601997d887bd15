-- Making and taking back seats, telling and learning keep the state of the core.
use Rattle.std.proofs.Common.{◌≡◌, ◌≢◌, ℕ, zero, suc, ◌+◌, ◌<◌, ◌≤◌, ◌⊎◌, List, [], ◌∷◌, ◌++◌, length, get_or, set, replicate, max, refl, sym, ap, ◌∙◌, subst, inl, inr, ⊎_elim, arith, get_or-set_other, lt_of_not-le}
use Rattle.std.proofs.lemmas.List.{get_or-replicate, get_or_past}
use Rattle.std.specs.List.{Contains}
use mathlib.Core.Option.{some, some-injective, some-ne-none}
use mathlib.Core.Logic.{dite}
use native.Mathlib.Decide.{ℕ_discrete, dec_le}
use lib.ListN.{get_elem?}
use Rattle.atomic_table.proofs.Lists.{at_set, set_again}
use Rattle.order_core.specs.declared.course.Course.{Course}
use Rattle.order_core.specs.Lanes.{lane}
use Rattle.order_core.specs.Course.{length_of}
use Rattle.order_core.specs.Lawful.{IsLawful}
use Rattle.order_core.specs.Core.{Core, opening_core}
use Rattle.order_core.proofs.Known.{known}
use Rattle.order_core.proofs.KnownLaws as core
use Rattle.guard_table.specs.declared.view.View.{View}
use Rattle.guard_table.specs.declared.view.Role.TheVariants.{OfHead, OfHart, OfNote, Spent}
use Rattle.guard_table.specs.Views.{first_view, made_seat, fresh_view, freed_seat, told_by, learnt_from, spent_view}
use Rattle.guard_table.specs.Rule.{Table, HasView, IsOfHart, IsOfHead, IsOfNote, IsTrueView, AreApart, Represents, HoldsCore}
use Rattle.guard_table.specs.Seats.{AreLastWords}
use Rattle.guard_table.specs.Laws.{opening_table, after_split, after_join}
use Rattle.guard_table.proofs.StepLemmas.{moved, true_of_hart}

module _ {A : Type 0} where
  -- an element of a list with one more at its end
  at_end : (l : List A) (a b : A) (j : ℕ) → get_elem? (l ++ a ∷ []) j ≡ some b → (get_elem? l j ≡ some b) ⊎ ((j ≡ length l) × (a ≡ b))
  at_end [] a b zero e = inr (refl, some-injective a b e)
  at_end [] a b (suc j) e = absurd (some-ne-none b (sym e))
  at_end (x ∷ xs) a b zero e = inl e
  at_end (x ∷ xs) a b (suc j) e = ⊎_elim inl (λ (t : (j ≡ length xs) × (a ≡ b)). inr (ap suc t.0, t.1)) (at_end xs a b j e)

contains_first : (h : ℕ) (xs : List ℕ) → Contains (h ∷ xs) h
contains_first h xs = (0, omega arith, refl)

contains_later : (h g : ℕ) (xs : List ℕ) → Contains xs g → Contains (h ∷ xs) g
contains_later h g xs t = (suc t.0, (let l : t.0 < length xs = t.1 in omega arith), t.2)

-- what is not first is later
contains_other : (h g : ℕ) (xs : List ℕ) → g ≢ h → Contains (h ∷ xs) g → Contains xs g
contains_other h g xs ne (zero, l, e) = absurd (ne (sym e))
contains_other h g xs ne (suc i, l, e) = (i, (let l' : suc i < suc (length xs) = l in omega arith), e)

abbrev eight_zeros : List ℕ
eight_zeros = replicate 8 0

zeros : (u : ℕ) → get_or eight_zeros u 0 ≡ 0
zeros u = dite (dec_le 8 u) (λ l. get_or_past eight_zeros u 0 l) (λ n. get_or-replicate 8 u 0 0 (lt_of_not-le n))

module _ (c : Course) where
  pub opens : ∥ IsLawful c ∥₁ → Represents c (opening_core c) (opening_table c)
  opens law = record {
    consistent = core.opens c law;
    size = refl;
    progress = λ h l. let few : c.log.harts ≤ 8 = (known c law).harts in (core.table c law).zeros (h + 1) (omega arith);
    words = λ w low high. refl;
    each = one_true;
    apart = none_apart;
  }
    where
      only : IsOfHead c (opening_core c) (first_view c)
      only = record { course = refl; idle = λ h none. (refl, refl, λ u. refl); ended = λ h yes. let l : yes.0 < 0 = yes.1 in absurd (omega arith) }

      one_true : (i : ℕ) (v : View) → get_elem? (first_view c ∷ []) i ≡ some v → IsTrueView c (opening_core c) v
      one_true zero v e = subst (IsTrueView c (opening_core c)) (some-injective (first_view c) v e)
          (record { head = λ l. only; hart = λ l. absurd (let f : OfHead ≡ OfHart = l in cc); note = λ l. absurd (let f : OfHead ≡ OfNote = l in cc) })
      one_true (suc i) v e = absurd (some-ne-none v (sym e))

      none_apart : (i j : ℕ) (v w : View) → get_elem? (first_view c ∷ []) i ≡ some v → get_elem? (first_view c ∷ []) j ≡ some w → i ≢ j → AreApart v w
      none_apart zero zero v w e f n = absurd (n refl)
      none_apart zero (suc j) v w e f n = absurd (some-ne-none w (sym f))
      none_apart (suc i) j v w e f n = absurd (some-ne-none v (sym e))

  -- the head makes the seat of a hart
  module _ (s : Table) (k : Core) (r : Represents c k s) (id : ℕ) (v : View) (at : HasView s id v) (role : v.role ≡ OfHead) (h : ℕ) (inside : h < c.log.harts) (new : Contains v.made h → ⊥) where
    abbrev w : View
    w = made_seat h v

    abbrev f : View
    f = fresh_view h v

    lead : IsOfHead c k v
    lead = (r.each id v at).head role

    fresh_true : IsOfHart c k f
    fresh_true = record {
      course = lead.course;
      hart = inside;
      written = (lead.idle h new).0;
      progress = (lead.idle h new).1;
      seen = λ u. (lead.idle h new).2 u ∙ sym (zeros u);
      learnt = λ u. let z : get_or eight_zeros u 0 ≡ 0 = zeros u in omega arith;
    }

    mine : IsTrueView c k w
    mine = record {
      head = λ _. record { course = lead.course; idle = λ g none. lead.idle g (λ t. none (contains_later h g v.made t)); ended = lead.ended };
      hart = λ l. absurd (let e : OfHead ≡ OfHart = sym role ∙ l in cc);
      note = λ l. absurd (let e : OfHead ≡ OfNote = sym role ∙ l in cc);
    }

    old : (j : ℕ) (u : View) → get_elem? (set s.views id w) j ≡ some u → IsTrueView c k u
    old j u e = ⊎_elim (λ (t : (j ≡ id) × (w ≡ u)). subst (IsTrueView c k) t.1 mine) (λ (t : (j ≢ id) × (get_elem? s.views j ≡ some u)). r.each j u t.1) (at_set s.views id j w u e)

    left : (u : View) → AreApart v u → AreApart w u
    left u a = record { heads = a.heads; harts = a.harts; made = a.made }

    right : (u : View) → AreApart u v → AreApart u w
    right u a = record { heads = a.heads; harts = a.harts; made = λ x y. contains_later h u.hart v.made (a.made x y) }

    both_old : (i j : ℕ) (x y : View) → get_elem? (set s.views id w) i ≡ some x → get_elem? (set s.views id w) j ≡ some y → i ≢ j → AreApart x y
    both_old i j x y e g n = ⊎_elim
        (λ (t : (i ≡ id) × (w ≡ x)). ⊎_elim (λ (q : (j ≡ id) × (w ≡ y)). absurd (n (t.0 ∙ sym q.0)))
        (λ (q : (j ≢ id) × (get_elem? s.views j ≡ some y)). subst (λ (z : View). AreApart z y) t.1 (left y (r.apart id j v y at q.1 (λ z. q.0 (sym z))))) (at_set s.views id j w y g))
        (λ (t : (i ≢ id) × (get_elem? s.views i ≡ some x)). ⊎_elim (λ (q : (j ≡ id) × (w ≡ y)). subst (AreApart x) q.1 (right x (r.apart i id x v t.1 at t.0)))
        (λ (q : (j ≢ id) × (get_elem? s.views j ≡ some y)). r.apart i j x y t.1 q.1 n) (at_set s.views id j w y g))
        (at_set s.views id i w x e)

    not_head : f.role ≡ OfHead → ⊥
    not_head l = let e : OfHart ≡ OfHead = l in cc

    -- another seat is of another hart
    apart_hart : (j : ℕ) (u : View) → j ≢ id → get_elem? s.views j ≡ some u → u.role ≡ OfHart → u.hart ≡ h → ⊥
    apart_hart j u n e l same = new (subst (Contains v.made) same ((r.apart j id u v e at n).made l role))

    one_head : (j : ℕ) (u : View) → j ≢ id → get_elem? s.views j ≡ some u → u.role ≡ OfHead → ⊥
    one_head j u n e l = (r.apart j id u v e at n).heads l role

    new_old : (j : ℕ) (u : View) → get_elem? (set s.views id w) j ≡ some u → AreApart f u
    new_old j u e = ⊎_elim
        (λ (t : (j ≡ id) × (w ≡ u)). subst (AreApart f) t.1 (record {
          heads = λ x y. not_head x;
          harts = λ x y. absurd (let z : OfHead ≡ OfHart = sym role ∙ y in cc);
          made = λ x y. contains_first h v.made;
        }))
        (λ (t : (j ≢ id) × (get_elem? s.views j ≡ some u)). record {
          heads = λ x y. not_head x;
          harts = λ x y same. apart_hart j u t.0 t.1 y (sym same);
          made = λ x y. absurd (one_head j u t.0 t.1 y);
        })
        (at_set s.views id j w u e)

    old_new : (j : ℕ) (u : View) → get_elem? (set s.views id w) j ≡ some u → AreApart u f
    old_new j u e = ⊎_elim
        (λ (t : (j ≡ id) × (w ≡ u)). subst (λ (z : View). AreApart z f) t.1 (record {
          heads = λ x y. not_head y;
          harts = λ x y. absurd (let z : OfHead ≡ OfHart = sym role ∙ x in cc);
          made = λ x y. absurd (not_head y);
        }))
        (λ (t : (j ≢ id) × (get_elem? s.views j ≡ some u)). record {
          heads = λ x y. not_head y;
          harts = λ x y same. apart_hart j u t.0 t.1 x same;
          made = λ x y. absurd (not_head y);
        })
        (at_set s.views id j w u e)

    pub makes : Represents c k (after_split s id (made_seat h v) (fresh_view h v))
    makes = record {
      consistent = r.consistent;
      size = r.size;
      progress = r.progress;
      words = r.words;
      each = λ j u e. ⊎_elim (old j u) (λ (t : (j ≡ length (set s.views id w)) × (f ≡ u)). subst (IsTrueView c k) t.1 (true_of_hart c k f refl fresh_true)) (at_end (set s.views id w) f u j e);
      apart = λ i j x y e g n. ⊎_elim
          (λ (a : get_elem? (set s.views id w) i ≡ some x). ⊎_elim
          (λ (b : get_elem? (set s.views id w) j ≡ some y). both_old i j x y a b n)
          (λ (b : (j ≡ length (set s.views id w)) × (f ≡ y)). subst (AreApart x) b.1 (old_new i x a)) (at_end (set s.views id w) f y j g))
          (λ (a : (i ≡ length (set s.views id w)) × (f ≡ x)). ⊎_elim
          (λ (b : get_elem? (set s.views id w) j ≡ some y). subst (λ (z : View). AreApart z y) a.1 (new_old j y b))
          (λ (b : (j ≡ length (set s.views id w)) × (f ≡ y)). absurd (n (a.0 ∙ sym b.0))) (at_end (set s.views id w) f y j g))
          (at_end (set s.views id w) f x i e);
    }

  note_left : (f u : View) → f.role ≡ OfNote → AreApart f u
  note_left f u is = record {
    heads = λ x y. let z : OfNote ≡ OfHead = sym is ∙ x in cc;
    harts = λ x y. absurd (let z : OfNote ≡ OfHart = sym is ∙ x in cc);
    made = λ x y. absurd (let z : OfNote ≡ OfHart = sym is ∙ x in cc);
  }

  note_right : (f u : View) → f.role ≡ OfNote → AreApart u f
  note_right f u is = record {
    heads = λ x y. let z : OfNote ≡ OfHead = sym is ∙ y in cc;
    harts = λ x y. absurd (let z : OfNote ≡ OfHart = sym is ∙ y in cc);
    made = λ x y. absurd (let z : OfNote ≡ OfHead = sym is ∙ y in cc);
  }

  module _ (s : Table) (k : Core) (r : Represents c k s) (id : ℕ) (v : View) (at : HasView s id v) where
    -- a hart's seat tells its progress word
    pub tells : v.role ≡ OfHart → Represents c k (after_split s id v (told_by v))
    tells role =
        let own : IsOfHart c k v = (r.each id v at).hart role in
        let f : View = told_by v in
        let same : set s.views id v ≡ s.views = set_again s.views id v at in
        subst (λ (vs : List View). Represents c k record { words = s.words; homes = s.homes; views = vs ++ f ∷ [] }) (sym same) record {
          consistent = r.consistent;
          size = r.size;
          progress = r.progress;
          words = r.words;
          each = λ j u e. ⊎_elim (r.each j u) (λ (t : (j ≡ length s.views) × (f ≡ u)). subst (IsTrueView c k) t.1 (record {
            head = λ l. absurd (let z : OfNote ≡ OfHead = l in cc);
            hart = λ l. absurd (let z : OfNote ≡ OfHart = l in cc);
            note = λ _. record { course = own.course; hart = own.hart; progress = let p : k.progress v.hart ≡ v.progress = own.progress in omega arith };
          })) (at_end s.views f u j e);
          apart = λ i j x y e g n. ⊎_elim
              (λ (a : get_elem? s.views i ≡ some x). ⊎_elim (λ (b : get_elem? s.views j ≡ some y). r.apart i j x y a b n)
              (λ (b : (j ≡ length s.views) × (f ≡ y)). subst (AreApart x) b.1 (note_right f x refl)) (at_end s.views f y j g))
              (λ (a : (i ≡ length s.views) × (f ≡ x)). subst (λ (z : View). AreApart z y) a.1 (note_left f y refl))
              (at_end s.views f x i e);
        }

  -- a spent view says nothing
  spends : (s : Table) (k : Core) (other : ℕ) → Represents c k s → Represents c k record { words = s.words; homes = s.homes; views = set s.views other spent_view }
  spends s k other r = record {
    consistent = r.consistent;
    size = r.size;
    progress = r.progress;
    words = r.words;
    each = λ j u e. ⊎_elim (λ (t : (j ≡ other) × (spent_view ≡ u)). subst (IsTrueView c k) t.1 (record {
      head = λ l. absurd (let z : Spent ≡ OfHead = l in cc);
      hart = λ l. absurd (let z : Spent ≡ OfHart = l in cc);
      note = λ l. absurd (let z : Spent ≡ OfNote = l in cc);
    })) (λ (t : (j ≢ other) × (get_elem? s.views j ≡ some u)). r.each j u t.1) (at_set s.views other j spent_view u e);
    apart = λ i j x y e g n. ⊎_elim
        (λ (t : (i ≡ other) × (spent_view ≡ x)). subst (λ (z : View). AreApart z y) t.1 (record {
          heads = λ p q. let z : Spent ≡ OfHead = p in cc;
          harts = λ p q. absurd (let z : Spent ≡ OfHart = p in cc);
          made = λ p q. absurd (let z : Spent ≡ OfHart = p in cc);
        }))
        (λ (t : (i ≢ other) × (get_elem? s.views i ≡ some x)). ⊎_elim
        (λ (q : (j ≡ other) × (spent_view ≡ y)). subst (AreApart x) q.1 (record {
          heads = λ p z. let z' : Spent ≡ OfHead = z in cc;
          harts = λ p z. absurd (let z' : Spent ≡ OfHart = z in cc);
          made = λ p z. absurd (let z' : Spent ≡ OfHead = z in cc);
        }))
        (λ (q : (j ≢ other) × (get_elem? s.views j ≡ some y)). r.apart i j x y t.1 q.1 n)
        (at_set s.views other j spent_view y g))
        (at_set s.views other i spent_view x e);
  }

  module _ (s : Table) (k : Core) (r : Represents c k s) (id : ℕ) (v : View) (at : HasView s id v) (other : ℕ) (w : View) (was : HasView s other w) where
    -- a hart's seat takes in a note
    pub learns : v.role ≡ OfHart → w.role ≡ OfNote → Represents c k (after_join s id (learnt_from w v) other)
    learns role told =
        let own : IsOfHart c k v = (r.each id v at).hart role in
        let tell : IsOfNote c k w = (r.each other w was).note told in
        let n : ℕ = max (get_or v.learnt w.hart 0) w.progress in
        let mine : IsOfHart c k (learnt_from w v) = record {
          course = own.course;
          hart = own.hart;
          written = own.written;
          progress = own.progress;
          seen = own.seen;
          learnt = λ x. dite (ℕ_discrete x w.hart)
              (λ e. subst (λ (z : ℕ). get_or (set v.learnt w.hart n) z 0 ≤ k.progress z) (sym e) (most v.learnt w.hart n (k.progress w.hart)
              (let a : get_or v.learnt w.hart 0 ≤ k.progress w.hart = own.learnt w.hart in let b : w.progress ≤ k.progress w.hart = tell.progress in omega arith)))
              (λ e. let a : get_or v.learnt x 0 ≤ k.progress x = own.learnt x in let b : get_or (set v.learnt w.hart n) x 0 ≡ get_or v.learnt x 0 = get_or-set_other v.learnt w.hart x n 0 e in omega arith);
        } in
        spends record { words = s.words; homes = s.homes; views = set s.views id (learnt_from w v) } k other
        (moved c s k r id v (learnt_from w v) k s.words at refl refl refl r.consistent r.size r.progress r.words (true_of_hart c k (learnt_from w v) role mine) (λ u a is. is))
      where
        most : (l : List ℕ) (i n top : ℕ) → n ≤ top → get_or (set l i n) i 0 ≤ top
        most [] i n top le = omega arith
        most (x ∷ xs) zero n top le = le
        most (x ∷ xs) (suc i) n top le = most xs i n top le

    -- the head takes back the seat of a hart that has ended
    pub takes_back : v.role ≡ OfHead → w.role ≡ OfHart → w.progress ≡ length_of c w.hart → Represents c k (after_join s id (freed_seat w.hart v) other)
    takes_back role of_hart full =
        let lead : IsOfHead c k v = (r.each id v at).head role in
        let own : IsOfHart c k w = (r.each other w was).hart of_hart in
        let mine : IsOfHead c k (freed_seat w.hart v) = record {
          course = lead.course;
          idle = lead.idle;
          ended = λ h yes. dite (ℕ_discrete h w.hart)
              (λ e. subst (λ (z : ℕ). k.progress z ≡ length_of c z) (sym e) (own.progress ∙ full))
              (λ e. lead.ended h (contains_other w.hart h v.freed e yes));
        } in
        spends record { words = s.words; homes = s.homes; views = set s.views id (freed_seat w.hart v) } k other
        (moved c s k r id v (freed_seat w.hart v) k s.words at refl refl refl r.consistent r.size r.progress r.words
        (record { head = λ _. mine; hart = λ l. absurd (let z : OfHead ≡ OfHart = sym role ∙ l in cc); note = λ l. absurd (let z : OfHead ≡ OfNote = sym role ∙ l in cc) }) (λ u a is. is))

  -- where the seats of all harts were taken back, the words are the last ones
  pub ends : (s : Table) → HoldsCore c s → (id : ℕ) (v : View) → HasView s id v → v.role ≡ OfHead → ((h : ℕ) → h < c.log.harts → Contains v.freed h) → AreLastWords c s.words
  ends s r id v at role all =
      let lead : IsOfHead c r.core v = (r.represented.each id v at).head role in
      record {
        size = r.represented.size;
        lanes = λ w j low high four. ap (lane j) (r.represented.words w low high) ∙ core.finishes c r.lawful r.core r.represented.consistent (λ h l. lead.ended h (all h l)) w j low high four;
      }

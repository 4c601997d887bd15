-- What conflicts and what orders it, in logs of two events.
use Rattle.std.proofs.Common.{◌≡◌, ◌≢◌, ℕ, zero, suc, ◌+◌, ◌/◌, ◌<◌, ◌⊎◌, inl, inr, Bool, true, false, List, length, get_or, get_or-set_same, Option, Some, None, refl, sym, ap, subst, ◌∙◌, arith, ne_eqb, if◌then◌else◌}
use Rattle.std.specs.Bool.{MatchBool}
use Rattle.std.proofs.lemmas.Bool.{false≢true}
use mathlib.Core.Option.{some, some-injective, some-ne-none}
use lib.ListN.{get_elem?}
use Rattle.pl_event.specs.declared.event.Event.{Event}
use Rattle.pl_event.specs.declared.event.Kind.{Kind}
use Rattle.pl_event.specs.declared.event.Kind.TheVariants.{Ld, St, Op, Mv, Im, Br, Jr, Al, Fr, Bf, Mp, Um, Rd, Wr, Ex, Ft}
use Rattle.pl_event.specs.declared.log.Line.{Line}
use Rattle.pl_event.specs.declared.log.Record.{Record}
use Rattle.pl_event.specs.declared.log.Record.TheVariants as entry
use Rattle.pl_event.specs.Alerts.{is_alert_kind}
use Rattle.pl_event.specs.Conflicts.{Access, access_of, ShareBlock, is_access, IsConcerned, MeetByAlert, IsPair, HasNotice, IsNoticed}
use Rattle.pl_event.specs.Edges.{Into, IsArc, IsNotice, arc_of, no_arcs, notice_of}
use Rattle.pl_event.specs.Graph.{Edge, Path, one, more}
use Rattle.pl_event.specs.Numbers.{hart_of}
use Rattle.pl_event.specs.Records.{records_before, IsEvent}
use Rattle.pl_event.specs.Runs.{EventAt}
use Rattle.pl_event.specs.ShortLogs.{event_line, notice_line, arc_from, IsLoad, IsStore, AreApart, two, told_of_first, told_of_second, AllOrdered, NeedsArc}
use Rattle.pl_event.proofs.Before.{eight}
use Rattle.pl_event.proofs.Places.{inside}

-- Logs with two events

-- the events of the log are a at position p and b at position q
record HasTwo (lines : List Line) (p q : ℕ) (a b : Event) : Type 0 where
  pub before : p < q
  pub first : EventAt lines p a
  pub second : EventAt lines q b
  pub only : (i : ℕ) (e : Event) → EventAt lines i e → ((i ≡ p) × (e ≡ a)) ⊎ ((i ≡ q) × (e ≡ b))

module _ (size : ℕ) (lines : List Line) (p q : ℕ) (a b : Event) (log : HasTwo lines p q a b) where
  abbrev number : Event → ℕ → ℕ
  number e i = records_before e.hart lines i + 1

  is_event : (i : ℕ) (e : Event) → EventAt lines i e → IsEvent lines i (number e i) e
  is_event i e is = (is.0, record { at = is.1; hart = ap hart_of is.2; number = refl }, is.2)

  pair : a.hart ≢ b.hart → IsPair lines p q a (number a p) b (number b q)
  pair apart = record { before = log.before; first = is_event p a log.first; second = is_event q b log.second; apart = apart }

  -- a pair of the log is this one
  the_pair : (P : Event → ℕ → Event → ℕ → Type 0) → P a (number a p) b (number b q) → (i j : ℕ) (c : Event) (n : ℕ) (d : Event) (m : ℕ) → IsPair lines i j c n d m → P c n d m
  the_pair P holds i j c n d m pair =
      elim (log.only i c (pair.first.0, pair.first.1.at, pair.first.2)) [
        | inl s ↦ elim (log.only j d (pair.second.0, pair.second.1.at, pair.second.2)) [
          | inl t ↦ absurd (omega (arith, s.0, t.0, pair.before))
          | inr t ↦
              let first : number a p ≡ number c i = λ x. number (sym s.1 x) (sym s.0 x) in
              let second : number b q ≡ number d j = λ x. number (sym t.1 x) (sym t.0 x) in
              let n_is : number a p ≡ n = first ∙ pair.first.1.number in
              let m_is : number b q ≡ m = second ∙ pair.second.1.number in
              subst (λ (z : Event × ℕ × Event × ℕ). P z.0 z.1 z.2 z.3) (λ x. (sym s.1 x, n_is x, sym t.1 x, m_is x)) holds
        ]
        | inr s ↦ elim (log.only j d (pair.second.0, pair.second.1.at, pair.second.2)) [
          | inl t ↦ absurd (omega (arith, s.0, t.0, pair.before, log.before))
          | inr t ↦ absurd (omega (arith, s.0, t.0, pair.before))
        ]
      ]

  abbrev Share : Type 0
  Share = ShareBlock (access_of size a.kind) (access_of size b.kind)

  ordered : (Share → Path (Into lines) a.hart (number a p) b.hart (number b q)) → (MeetByAlert a.kind b.kind → IsNoticed lines a (number a p) b (number b q)) → AllOrdered size lines
  ordered path told = record {
    accesses = λ i j c n d m low pair. the_pair (λ c n d m. ShareBlock (access_of size c.kind) (access_of size d.kind) → Path (Into lines) c.hart n d.hart m) path i j c n d m pair;
    alerts = λ i j c n d m low pair. the_pair (λ c n d m. MeetByAlert c.kind d.kind → IsNoticed lines c n d m) told i j c n d m pair;
  }

  low : q < length lines
  low = inside lines q log.second.0 log.second.1

  path_of : a.hart ≢ b.hart → AllOrdered size lines → Share → Path (Into lines) a.hart (number a p) b.hart (number b q)
  path_of apart all shared = all.accesses p q a (number a p) b (number b q) low (pair apart) shared

  told_of : a.hart ≢ b.hart → AllOrdered size lines → MeetByAlert a.kind b.kind → IsNoticed lines a (number a p) b (number b q)
  told_of apart all meet = all.alerts p q a (number a p) b (number b q) low (pair apart) meet

-- Kinds

-- what is no load and no store accesses nothing
no_access : (size : ℕ) (k : Kind) → is_access k ≡ false → access_of size k ≡ None
no_access size (Ld width rd rb addr) is = absurd (false≢true (sym is))
no_access size (St width rv rb addr) is = absurd (false≢true (sym is))
no_access size (Op rd r1 r2) is = refl
no_access size (Mv rd rs) is = refl
no_access size (Im rd) is = refl
no_access size (Br r1 r2) is = refl
no_access size (Jr rd rs) is = refl
no_access size (Al addr len) is = refl
no_access size (Fr addr len) is = refl
no_access size (Bf addr) is = refl
no_access size (Mp page count) is = refl
no_access size (Um page count) is = refl
no_access size (Rd addr len) is = refl
no_access size (Wr addr len) is = refl
no_access size Ex is = refl
no_access size (Ft cause addr) is = refl

-- a load or a store is no alert event
quiet : (k : Kind) → is_access k ≡ true → is_alert_kind k ≡ false
quiet (Ld width rd rb addr) is = refl
quiet (St width rv rb addr) is = refl
quiet (Op rd r1 r2) is = absurd (false≢true is)
quiet (Mv rd rs) is = absurd (false≢true is)
quiet (Im rd) is = absurd (false≢true is)
quiet (Br r1 r2) is = absurd (false≢true is)
quiet (Jr rd rs) is = absurd (false≢true is)
quiet (Al addr len) is = absurd (false≢true is)
quiet (Fr addr len) is = absurd (false≢true is)
quiet (Bf addr) is = absurd (false≢true is)
quiet (Mp page count) is = absurd (false≢true is)
quiet (Um page count) is = absurd (false≢true is)
quiet (Rd addr len) is = absurd (false≢true is)
quiet (Wr addr len) is = absurd (false≢true is)
quiet Ex is = absurd (false≢true is)
quiet (Ft cause addr) is = absurd (false≢true is)

loud : (k : Kind) → is_alert_kind k ≡ true → is_access k ≡ false
loud k is = by (is_access k) refl
  where
    by : (b : Bool) → is_access k ≡ b → is_access k ≡ false
    by true e = absurd (false≢true (sym (quiet k e) ∙ is))
    by false e = e

abbrev access : ℕ → Bool → Access
access block store = record { block = block; store = store }

module _ (size : ℕ) (a b : Event) where
  abbrev Shared : Type 0
  Shared = ShareBlock (access_of size a.kind) (access_of size b.kind)

  abbrev Meet : Type 0
  Meet = MeetByAlert a.kind b.kind

  shared : (x y : ℕ) (s t : Bool) → access_of size a.kind ≡ Some (access x s) → access_of size b.kind ≡ Some (access y t) → x ≡ y → (s ≡ true) ⊎ (t ≡ true) → Shared
  shared x y s t p q same store = subst (λ (z : Option Access × Option Access). ShareBlock z.0 z.1) (λ i. (sym p i, sym q i)) (same, store)

  sharing : (x y : ℕ) (s t : Bool) → access_of size a.kind ≡ Some (access x s) → access_of size b.kind ≡ Some (access y t) → Shared → (x ≡ y) × ((s ≡ true) ⊎ (t ≡ true))
  sharing x y s t p q is = subst (λ (z : Option Access × Option Access). ShareBlock z.0 z.1) (λ i. (p i, q i)) is

  none_first : access_of size a.kind ≡ None → Shared → ⊥
  none_first e is = subst (λ (z : Option Access). ShareBlock z (access_of size b.kind)) e is

  none_second : access_of size b.kind ≡ None → Shared → ⊥
  none_second e is = by (access_of size a.kind) (subst (λ (z : Option Access). ShareBlock (access_of size a.kind) z) e is)
    where
      by : (o : Option Access) → ShareBlock o None → ⊥
      by None no_one = no_one
      by (Some x) no_one = no_one

  calm : is_alert_kind a.kind ≡ false → is_alert_kind b.kind ≡ false → Meet → ⊥
  calm p q (inl t) = false≢true (sym p ∙ t.0)
  calm p q (inr t) = false≢true (sym q ∙ t.1)

abbrev IsStill : Event → Type 0
IsStill e = (is_access e.kind ≡ false) × (is_alert_kind e.kind ≡ false)

-- Logs of two events

what_is : (l line : Line) (w : Record) → some l ≡ some line → line.what ≡ w → l.what ≡ w
what_is l line w at is = ap (λ (z : Line). z.what) (some-injective l line at) ∙ is

event_in : {a b : Event} → entry.Event a ≡ entry.Event b → a ≡ b
event_in e = cc

no_event : {h u n : ℕ} {e : Event} → notice_of h u n ≡ entry.Event e → ⊥
no_event e = cc

module _ (a b : Event) where
  two_has : (arcs : List (Option ℕ)) → HasTwo (two a b arcs) 0 1 a b
  two_has arcs = record { before = omega arith; first = (event_line a no_arcs, refl, refl); second = (event_line b arcs, refl, refl); only = only }
    where
      only : (i : ℕ) (e : Event) → EventAt (two a b arcs) i e → ((i ≡ 0) × (e ≡ a)) ⊎ ((i ≡ 1) × (e ≡ b))
      only zero e is = inl (refl, sym (event_in (what_is (event_line a no_arcs) is.0 (entry.Event e) is.1 is.2)))
      only (suc zero) e is = inr (refl, sym (event_in (what_is (event_line b arcs) is.0 (entry.Event e) is.1 is.2)))
      only (suc (suc i)) e is = absurd (some-ne-none is.0 (sym is.1))

  first_has : HasTwo (told_of_first a b) 1 2 a b
  first_has = record { before = omega arith; first = (event_line a no_arcs, refl, refl); second = (event_line b no_arcs, refl, refl); only = only }
    where
      only : (i : ℕ) (e : Event) → EventAt (told_of_first a b) i e → ((i ≡ 1) × (e ≡ a)) ⊎ ((i ≡ 2) × (e ≡ b))
      only zero e is = absurd (no_event (what_is (notice_line b.hart a.hart 1) is.0 (entry.Event e) is.1 is.2))
      only (suc zero) e is = inl (refl, sym (event_in (what_is (event_line a no_arcs) is.0 (entry.Event e) is.1 is.2)))
      only (suc (suc zero)) e is = inr (refl, sym (event_in (what_is (event_line b no_arcs) is.0 (entry.Event e) is.1 is.2)))
      only (suc (suc (suc i))) e is = absurd (some-ne-none is.0 (sym is.1))

  second_has : HasTwo (told_of_second a b) 0 2 a b
  second_has = record { before = omega arith; first = (event_line a no_arcs, refl, refl); second = (event_line b no_arcs, refl, refl); only = only }
    where
      only : (i : ℕ) (e : Event) → EventAt (told_of_second a b) i e → ((i ≡ 0) × (e ≡ a)) ⊎ ((i ≡ 2) × (e ≡ b))
      only zero e is = inl (refl, sym (event_in (what_is (event_line a no_arcs) is.0 (entry.Event e) is.1 is.2)))
      only (suc zero) e is = absurd (no_event (what_is (notice_line a.hart b.hart 1) is.0 (entry.Event e) is.1 is.2))
      only (suc (suc zero)) e is = inr (refl, sym (event_in (what_is (event_line b no_arcs) is.0 (entry.Event e) is.1 is.2)))
      only (suc (suc (suc i))) e is = absurd (some-ne-none is.0 (sym is.1))

  no_notice : (arcs : List (Option ℕ)) (h k u n : ℕ) → IsNotice (two a b arcs) h k u n → ⊥
  no_notice arcs h k u n t = by t.0 t.2.at
    where
      by : (i : ℕ) → get_elem? (two a b arcs) i ≡ some t.1 → ⊥
      by zero at = no_event (sym (what_is (event_line a no_arcs) t.1 (notice_of h u n) at t.3))
      by (suc zero) at = no_event (sym (what_is (event_line b arcs) t.1 (notice_of h u n) at t.3))
      by (suc (suc i)) at = absurd (some-ne-none t.1 (sym at))

  no_arc : (u n h m : ℕ) → IsArc (two a b no_arcs) u n h m → ⊥
  no_arc u n h m t = by t.0 t.2.at
    where
      nothing : (l : Line) → l.arcs ≡ no_arcs → some l ≡ some t.1 → ⊥
      nothing l plain at =
          let arc : arc_of l u ≡ Some n = ap (λ (z : Line). arc_of z u) (some-injective l t.1 at) ∙ t.3 in
          let none : arc_of l u ≡ None = ap (λ (z : List (Option ℕ)). get_or z u None) plain ∙ eight {A = Option ℕ} None u in
          let both : None ≡ Some n = sym none ∙ arc in
          absurd cc

      by : (i : ℕ) → get_elem? (two a b no_arcs) i ≡ some t.1 → ⊥
      by zero at = nothing (event_line a no_arcs) refl at
      by (suc zero) at = nothing (event_line b no_arcs) refl at
      by (suc (suc i)) at = absurd (some-ne-none t.1 (sym at))

  -- without arcs and notices a path stays in its hart
  stays : (u n h m : ℕ) → Path (Into (two a b no_arcs)) u n h m → u ≡ h
  stays u n h m (one e) = own u n h m e
    where
      own : (u n h m : ℕ) → Edge (Into (two a b no_arcs)) u n h m → u ≡ h
      own u n h m (inl e) = e.0
      own u n h m (inr (inl t)) = absurd (no_arc u n h m t)
      own u n h m (inr (inr (inl t))) = absurd (no_notice no_arcs u n h m t)
      own u n h m (inr (inr (inr t))) = absurd (no_notice no_arcs h t.2 u n t.5)
  stays u n h m (more {v = v} {k = k} p e) = stays u n v k p ∙ own v k h m e
    where
      own : (u n h m : ℕ) → Edge (Into (two a b no_arcs)) u n h m → u ≡ h
      own u n h m (inl e) = e.0
      own u n h m (inr (inl t)) = absurd (no_arc u n h m t)
      own u n h m (inr (inr (inl t))) = absurd (no_notice no_arcs u n h m t)
      own u n h m (inr (inr (inr t))) = absurd (no_notice no_arcs h t.2 u n t.5)

  module _ (size : ℕ) (apart : AreApart a b) where
    needs_arc : ShareBlock (access_of size a.kind) (access_of size b.kind) → (MeetByAlert a.kind b.kind → ⊥) → NeedsArc size a b
    needs_arc together silent = (
      λ all. apart.0 (stays a.hart 1 b.hart (records_before b.hart (two a b no_arcs) 1 + 1) (path_of size (two a b no_arcs) 0 1 a b (two_has no_arcs) apart.0 all together)),
      ordered size (two a b (arc_from a.hart)) 0 1 a b (two_has (arc_from a.hart))
          (λ shared. one (inr (inl (1, event_line b (arc_from a.hart), record { at = refl; hart = refl; number = refl }, get_or-set_same no_arcs a.hart (Some 1) None apart.1))))
          (λ meet. absurd (silent meet)),
    )

    needs_nothing : (ShareBlock (access_of size a.kind) (access_of size b.kind) → ⊥) → (MeetByAlert a.kind b.kind → ⊥) → AllOrdered size (two a b no_arcs)
    needs_nothing other silent = ordered size (two a b no_arcs) 0 1 a b (two_has no_arcs) (λ shared. absurd (other shared)) (λ meet. absurd (silent meet))

    -- an arc does not order an alert event and what it concerns
    not_by_arc : MeetByAlert a.kind b.kind → AllOrdered size (two a b (arc_from a.hart)) → ⊥
    not_by_arc meet all = by (is_alert_kind a.kind) (told_of size (two a b (arc_from a.hart)) 0 1 a b (two_has (arc_from a.hart)) apart.0 all meet)
      where
        by : (alert : Bool) → MatchBool alert (HasNotice (two a b (arc_from a.hart)) b.hart a.hart 1) (HasNotice (two a b (arc_from a.hart)) a.hart b.hart (records_before b.hart (two a b (arc_from a.hart)) 1 + 1)) → ⊥
        by true t = no_notice (arc_from a.hart) b.hart t.0 a.hart 1 t.1
        by false t = no_notice (arc_from a.hart) a.hart t.0 b.hart (records_before b.hart (two a b (arc_from a.hart)) 1 + 1) t.1

    by_first : is_alert_kind a.kind ≡ true → AllOrdered size (told_of_first a b)
    by_first alert = ordered size (told_of_first a b) 1 2 a b first_has
        (λ shared. absurd (none_first size a b (no_access size a.kind (loud a.kind alert)) shared))
        (λ meet. subst (λ (z : Bool). MatchBool z (HasNotice (told_of_first a b) b.hart a.hart (records_before a.hart (told_of_first a b) 1 + 1)) (HasNotice (told_of_first a b) a.hart b.hart (records_before b.hart (told_of_first a b) 2 + 1))) (sym alert)
        (1, (0, notice_line b.hart a.hart 1, record { at = refl; hart = refl; number = refl }, ap (notice_of b.hart a.hart) (sym (ap (λ (z : Bool). (if z then 1 else 0) + 0 + 1) (ne_eqb b.hart a.hart (λ e. apart.0 (sym e))))))))

    by_second : is_alert_kind a.kind ≡ false → is_alert_kind b.kind ≡ true → AllOrdered size (told_of_second a b)
    by_second silent alert = ordered size (told_of_second a b) 0 2 a b second_has
        (λ shared. absurd (none_second size a b (no_access size b.kind (loud b.kind alert)) shared))
        (λ meet. subst (λ (z : Bool). MatchBool z (HasNotice (told_of_second a b) b.hart a.hart 1) (HasNotice (told_of_second a b) a.hart b.hart (records_before b.hart (told_of_second a b) 2 + 1))) (sym silent)
        (records_before a.hart (told_of_second a b) 1 + 1, (1, notice_line a.hart b.hart 1, record { at = refl; hart = refl; number = refl }, ap (notice_of a.hart b.hart) (sym (ap (λ (z : Bool). (if z then 1 else 0) + ((if z then 1 else 0) + 0) + 1) (ne_eqb a.hart b.hart apart.0))))))

    -- of two alert events the later one's hart needs the notice
    not_by_second : is_alert_kind a.kind ≡ true → MeetByAlert a.kind b.kind → AllOrdered size (told_of_second a b) → ⊥
    not_by_second alert meet all =
        let t : HasNotice (told_of_second a b) b.hart a.hart 1 = subst (λ (z : Bool). MatchBool z (HasNotice (told_of_second a b) b.hart a.hart 1) (HasNotice (told_of_second a b) a.hart b.hart (records_before b.hart (told_of_second a b) 2 + 1))) alert (told_of size (told_of_second a b) 0 2 a b second_has apart.0 all meet) in
        by t.1.0 t.1.1 t.1.2.at t.1.3
      where
        by : (i : ℕ) (line : Line) → get_elem? (told_of_second a b) i ≡ some line → line.what ≡ notice_of b.hart a.hart 1 → ⊥
        by zero line at is = no_event (sym (what_is (event_line a no_arcs) line (notice_of b.hart a.hart 1) at is))
        by (suc zero) line at is = apart.0 (ap hart_of (what_is (notice_line a.hart b.hart 1) line (notice_of b.hart a.hart 1) at is))
        by (suc (suc zero)) line at is = no_event (sym (what_is (event_line b no_arcs) line (notice_of b.hart a.hart 1) at is))
        by (suc (suc (suc i))) line at is = absurd (some-ne-none line (sym at))

-- The clauses

module _ (size x y : ℕ) (a b : Event) (apart : AreApart a b) where
  pub load_store : IsLoad a x → IsStore b y → x / size ≡ y / size → NeedsArc size a b
  load_store p q same = needs_arc a b size apart
      (shared size a b (x / size) (y / size) false true (ap (access_of size) p.3) (ap (access_of size) q.3) same (inr refl))
      (calm size a b (ap is_alert_kind p.3) (ap is_alert_kind q.3))

  pub store_load : IsStore a x → IsLoad b y → x / size ≡ y / size → NeedsArc size a b
  store_load p q same = needs_arc a b size apart
      (shared size a b (x / size) (y / size) true false (ap (access_of size) p.3) (ap (access_of size) q.3) same (inl refl))
      (calm size a b (ap is_alert_kind p.3) (ap is_alert_kind q.3))

  pub stores : IsStore a x → IsStore b y → x / size ≡ y / size → NeedsArc size a b
  stores p q same = needs_arc a b size apart
      (shared size a b (x / size) (y / size) true true (ap (access_of size) p.3) (ap (access_of size) q.3) same (inl refl))
      (calm size a b (ap is_alert_kind p.3) (ap is_alert_kind q.3))

  pub loads : IsLoad a x → IsLoad b y → AllOrdered size (two a b no_arcs)
  loads p q = needs_nothing a b size apart
      (λ is. elim (sharing size a b (x / size) (y / size) false false (ap (access_of size) p.3) (ap (access_of size) q.3) is).1 [ inl e ↦ false≢true e | inr e ↦ false≢true e ])
      (calm size a b (ap is_alert_kind p.3) (ap is_alert_kind q.3))

  pub blocks : IsStore a x → IsStore b y → (x / size ≢ y / size) → AllOrdered size (two a b no_arcs)
  blocks p q other = needs_nothing a b size apart
      (λ is. other (sharing size a b (x / size) (y / size) true true (ap (access_of size) p.3) (ap (access_of size) q.3) is).0)
      (calm size a b (ap is_alert_kind p.3) (ap is_alert_kind q.3))

module _ (size : ℕ) (a b : Event) (apart : AreApart a b) where
  pub alert_access : is_alert_kind a.kind ≡ true → is_access b.kind ≡ true → (AllOrdered size (two a b (arc_from a.hart)) → ⊥) × AllOrdered size (told_of_first a b)
  alert_access alert is = (not_by_arc a b size apart (inl (alert, inl is)), by_first a b size apart alert)

  pub access_alert : is_access a.kind ≡ true → is_alert_kind b.kind ≡ true → (AllOrdered size (two a b (arc_from a.hart)) → ⊥) × AllOrdered size (told_of_second a b)
  access_alert is alert = (not_by_arc a b size apart (inr (inl is, alert)), by_second a b size apart (quiet a.kind is) alert)

  pub alerts : is_alert_kind a.kind ≡ true → is_alert_kind b.kind ≡ true → (AllOrdered size (told_of_second a b) → ⊥) × AllOrdered size (told_of_first a b)
  alerts alert other = (not_by_second a b size apart alert (inl (alert, inr other)), by_first a b size apart alert)

  pub others : is_access a.kind ≡ false → is_alert_kind a.kind ≡ false → AllOrdered size (two a b no_arcs) × AllOrdered size (two b a no_arcs)
  others still silent = (
    needs_nothing a b size apart (none_first size a b (no_access size a.kind still)) (not_met a b (inl (still, silent))),
    ordered size (two b a no_arcs) 0 1 b a (two_has b a no_arcs) (λ shared. absurd (none_second size b a (no_access size a.kind still) shared)) (λ meet. absurd (not_met b a (inr (still, silent)) meet)),
  )
    where
      not_concerned : (e : Event) → IsStill e → IsConcerned e.kind → ⊥
      not_concerned e t (inl is) = false≢true (sym t.0 ∙ is)
      not_concerned e t (inr is) = false≢true (sym t.1 ∙ is)

      not_met : (a b : Event) → IsStill a ⊎ IsStill b → MeetByAlert a.kind b.kind → ⊥
      not_met a b (inl t) (inl m) = false≢true (sym t.1 ∙ m.0)
      not_met a b (inl t) (inr m) = not_concerned a t m.0
      not_met a b (inr t) (inl m) = not_concerned b t m.1
      not_met a b (inr t) (inr m) = false≢true (sym t.1 ∙ m.1)

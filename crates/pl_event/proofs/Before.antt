-- What comes before a line.
use Rattle.std.proofs.Common.{◌≡◌, ◌≢◌, ℕ, zero, suc, ◌+◌, ◌^◌, ◌<◌, ◌≤◌, ◌⊎◌, Bool, eqb, eq-eqb, ne_eqb, if◌then◌else◌, List, [], ◌∷◌, ◌++◌, length, take, drop, filter, length-append, append-nil, zero-add, slice_get, slice_index, slice_index_or, set, get_or, get_or-set_same, get_or-set_other, Option, Some, None, refl, sym, ap, ◌∙◌, subst, inl, inr, arith}
use Rattle.std.proofs.lemmas.List.Sums.{sum_by-append, count_by-le-length}
use Rattle.std.specs.List.{cons_option}
use Rattle.std.specs.Option.{option_to_list}
use mathlib.Core.Option.{some, some-injective, some-ne-none}
use lib.ListN.{get_elem?}
use mathlib.Core.Logic.{dite}
use native.Mathlib.Decide.{ℕ_discrete}
use Rattle.pl_event.specs.declared.event.Event.{Event}
use Rattle.pl_event.specs.declared.log.Line.{Line}
use Rattle.pl_event.specs.declared.log.Point.{Point}
use Rattle.pl_event.specs.declared.log.Record.{Record}
use Rattle.pl_event.specs.declared.log.Record.TheVariants as entry
use Rattle.pl_event.specs.declared.fed.Fed.{Fed}
use Rattle.pl_event.specs.declared.heads.Heads.{Heads}
use Rattle.pl_event.specs.Numbers.{hart_of, is_of, event_of, events_of, events_on}
use Rattle.pl_event.specs.Records.{records_before, IsRecord}
use Rattle.pl_event.specs.Edges.{arc_of, no_arcs, notice_of, IsArc, IsNotice, IsAfter, Into, IsFlow}
use Rattle.pl_event.specs.Needs.{IsMost, need_of, needs_of}
use Rattle.pl_event.specs.Feeds.{place_at, event_number_at, fed_at, feds_from}
use Rattle.pl_event.specs.Heads.{IsNext, Tells}
use Rattle.pl_event.specs.inner.Later.{later}
use Rattle.pl_event.proofs.Places.{one_place, record_at, before_up, before_own, before_other, before_none, before_most, inside}
use Rattle.pl_event.proofs.Edges.{source_before}
use Rattle.pl_event.proofs.Sources.{need_most, one_most}
use Rattle.pl_event.proofs.Mosts.{later_most}

abbrev some_line : Line → Option Line
some_line l = Some l

abbrev some_point : Point → Option Point
some_point p = Some p

module _ (harts : ℕ) (g : List Line) (flow : IsFlow harts g) (i h : ℕ) (l : Line) (next : IsNext g i h l) where
  own_arc : (u k : ℕ) → IsArc g u k h (records_before h g i + 1) → arc_of l u ≡ Some k
  own_arc u k arc = subst (λ (z : Line). arc_of z u ≡ Some k) (one_place g h (records_before h g i + 1) arc.0 i arc.1 l arc.2 next).1 arc.3

  pub arcs_most : (u : ℕ) (a : Option ℕ) → arc_of l u ≡ a → IsMost (λ n. IsArc g u n h (records_before h g i + 1)) a
  arcs_most u None e = λ k arc. let t : None ≡ Some k = sym e ∙ own_arc u k arc in absurd (cc)
  arcs_most u (Some n) e = ((i, l, next, e), λ k arc. let t : Some n ≡ Some k = sym e ∙ own_arc u k arc in let s : n ≡ k = cc in omega arith)

  -- a notice of this line is the last record of its hart before it
  pub notice_last : (u n : ℕ) → IsNotice g u n h (records_before h g i + 1) → n ≡ records_before u g i
  notice_last u n note =
      let most : n ≤ records_before u g i = source_before harts g flow i h (records_before h g i + 1) u n l next (inr (inl note)) in
      dite (ℕ_discrete n (records_before u g i)) (λ e. e)
      (λ ne. let apart : n ≡ records_before u g i → ⊥ = ne in
      let t = record_at g i u (n + 1) (omega arith) (omega arith) in
      let open_until : records_before h g i + 1 ≤ records_before h g t.0 = flow.closed t.0 u n t.1 t.3 h (records_before h g i + 1) note in
      let up : records_before h g t.0 ≤ records_before h g i = before_up g t.0 i h (let b : t.0 < i = t.2 in omega arith) in
      absurd (omega arith))

  -- what the last record of hart u tells
  notice_most : (u c : ℕ) (o : Option Point)
      → ((p : Point) → o ≡ Some p → IsNotice g u (records_before u g i) p.hart p.number)
      → ((v k : ℕ) → IsNotice g u (records_before u g i) v k → (p : Point) × (o ≡ Some p) × (p.hart ≡ v) × (p.number ≡ k))
      → c ≡ records_before u g i
      → ((p : Point) → o ≡ Some p → p.hart ≡ h → p.number ≡ records_before h g i + 1 → IsMost (λ n. IsNotice g u n h (records_before h g i + 1)) (Some c))
      × ((((p : Point) → o ≡ Some p → p.hart ≡ h → p.number ≡ records_before h g i + 1 → ⊥)) → IsMost (λ n. IsNotice g u n h (records_before h g i + 1)) None)
  notice_most u c o told all same = (
    λ p is x y. (subst (λ (z : ℕ × ℕ × ℕ). IsNotice g u z.0 z.1 z.2) (λ d. (sym same d, x d, y d)) (told p is), λ k note. let e : k ≡ records_before u g i = notice_last u k note in omega arith),
    λ none k note. let e : k ≡ records_before u g i = notice_last u k note in let t = all h (records_before h g i + 1) (subst (λ (z : ℕ). IsNotice g u z h (records_before h g i + 1)) e note) in none t.0 t.1 t.2 t.3,
  )

  -- a record follows one notice at most
  after_most : (u : ℕ) (o : Option Point)
      → ((p : Point) → o ≡ Some p → IsNotice g h (records_before h g i) p.hart p.number)
      → ((v k : ℕ) → IsNotice g h (records_before h g i) v k → (p : Point) × (o ≡ Some p) × (p.hart ≡ v) × (p.number ≡ k))
      → ((p : Point) → o ≡ Some p → p.hart ≡ u → IsMost (λ n. IsAfter g u n h (records_before h g i + 1)) (Some p.number))
      × (((p : Point) → o ≡ Some p → p.hart ≡ u → ⊥) → IsMost (λ n. IsAfter g u n h (records_before h g i + 1)) None)
  after_most u o told all = (
    λ p is x. (
      (i, l, records_before h g i, next, refl, subst (λ (z : ℕ). IsNotice g h (records_before h g i) z p.number) x (told p is)),
      λ k after. let t = find k after in let e : Some p ≡ Some t.0 = sym is ∙ t.1 in let n : p.number ≡ t.0.number = ap (λ (z : Option Point). number_of z) e in let y : t.0.number ≡ k = t.3 in omega arith,
    ),
    λ none k after. let t = find k after in none t.0 t.1 t.2,
  )
    where
      number_of : Option Point → ℕ
      number_of None = 0
      number_of (Some p) = p.number

      find : (k : ℕ) → IsAfter g u k h (records_before h g i + 1) → (p : Point) × (o ≡ Some p) × (p.hart ≡ u) × (p.number ≡ k)
      find k after =
          let e : after.2 ≡ records_before h g i = let f : after.2 + 1 ≡ records_before h g i + 1 = after.4 in omega arith in
          all u k (subst (λ (z : ℕ). IsNotice g h z u k) e after.5)

  pub most_notice : (s : Heads) → Tells s g i → (u : ℕ) → u < 8
      → ((p : Point) → slice_index_or s.notices u None ≡ Some p → p.hart ≡ h → p.number ≡ records_before h g i + 1 → IsMost (λ n. IsNotice g u n h (records_before h g i + 1)) (Some (slice_index s.records u)))
      × ((((p : Point) → slice_index_or s.notices u None ≡ Some p → p.hart ≡ h → p.number ≡ records_before h g i + 1 → ⊥)) → IsMost (λ n. IsNotice g u n h (records_before h g i + 1)) None)
  most_notice s st u low = notice_most u (slice_index s.records u) (slice_index_or s.notices u None) (st.told u) (λ v k n. st.all u v k low n) (st.records u low)

  pub most_after : (s : Heads) → Tells s g i → (u : ℕ) → h < 8
      → ((p : Point) → slice_index_or s.notices h None ≡ Some p → p.hart ≡ u → IsMost (λ n. IsAfter g u n h (records_before h g i + 1)) (Some p.number))
      × (((p : Point) → slice_index_or s.notices h None ≡ Some p → p.hart ≡ u → ⊥) → IsMost (λ n. IsAfter g u n h (records_before h g i + 1)) None)
  most_after s st u low = after_most u (slice_index_or s.notices h None) (st.told h) (λ v k n. st.all h v k low n)

  -- the greatest of the three kinds is the need
  pub is_need : (u : ℕ) (a b c : Option ℕ) → arc_of l u ≡ a → IsMost (λ n. IsNotice g u n h (records_before h g i + 1)) b → IsMost (λ n. IsAfter g u n h (records_before h g i + 1)) c
      → later a (later b c) ≡ need_of g u h (records_before h g i + 1)
  is_need u a b c x y z =
      let m : ℕ = records_before h g i + 1 in
      one_most (λ n. Into g u n h m) (later a (later b c)) (need_of g u h m)
      (later_most (λ n. IsArc g u n h m) (λ n. IsNotice g u n h m ⊎ IsAfter g u n h m) a (later b c) (arcs_most u a x) (later_most (λ n. IsNotice g u n h m) (λ n. IsAfter g u n h m) b c y z))
      (need_most harts g flow u h m)

  -- without a notice the arc is the need
  pub need_alone : (u : ℕ) → ((n : ℕ) → (IsNotice g u n h (records_before h g i + 1) ⊎ IsAfter g u n h (records_before h g i + 1)) → ⊥)
      → need_of g u h (records_before h g i + 1) ≡ arc_of l u
  need_alone u none = sym (is_need u (arc_of l u) None None refl (λ k x. none k (inl x)) (λ k x. none k (inr x))) ∙ alone (arc_of l u)
    where
      alone : (a : Option ℕ) → later a None ≡ a
      alone None = refl
      alone (Some n) = refl

  -- the line is passed
  pub passed : (s : Heads) → Tells s g i → h < 8 → length s.records ≡ 8 → length s.notices ≡ 8
      → (o : Option Point) (n p : ℕ) (es : List ℕ)
      → ((q : Point) → o ≡ Some q → l.what ≡ notice_of h q.hart q.number)
      → ((u k : ℕ) → l.what ≡ notice_of h u k → (q : Point) × (o ≡ Some q) × (q.hart ≡ u) × (q.number ≡ k))
      → n ≡ slice_index s.records h + 1
      → p ≡ length (events_of (take (i + 1) g))
      → ((x : ℕ) → x < 8 → slice_index es x ≡ events_on x (events_of (take (i + 1) g)))
      → (names : List ℕ) → ((x : ℕ) (q : Point) → slice_index_or (set s.notices h o) x None ≡ Some q → q.hart < 8 → q.number ≤ slice_index names q.hart)
      → Tells (record { place = p; events = es; records = set s.records h n; notices = set s.notices h o; awaited = names }) g (i + 1)
  passed s st low long_c long_o o n p es told all is placed numbered names named = record { place = placed; events = numbered; records = counts; told = tells; all = every; awaited = named }
    where
      own : records_before h g (i + 1) ≡ records_before h g i + 1
      own = before_own g i h l next.at next.hart

      other : (x : ℕ) → x ≢ h → records_before x g (i + 1) ≡ records_before x g i
      other x ne = before_other g i x l next.at (λ e. ne (sym e ∙ next.hart))

      here : get_or (set s.notices h o) h None ≡ o
      here = get_or-set_same s.notices h o None (omega arith)

      counts : (x : ℕ) → x < 8 → slice_index (set s.records h n) x ≡ records_before x g (i + 1)
      counts x lx = dite (ℕ_discrete x h)
          (λ e. subst (λ (z : ℕ). slice_index (set s.records h n) z ≡ records_before z g (i + 1)) (sym e)
          (get_or-set_same s.records h n 0 (omega arith) ∙ (let c : slice_index s.records h ≡ records_before h g i = st.records h low in let o : records_before h g (i + 1) ≡ records_before h g i + 1 = own in let t : n ≡ records_before h g (i + 1) = omega arith in t)))
          (λ ne. get_or-set_other s.records h x n 0 ne ∙ (st.records x lx ∙ sym (other x ne)))

      tells : (x : ℕ) (q : Point) → slice_index_or (set s.notices h o) x None ≡ Some q → IsNotice g x (records_before x g (i + 1)) q.hart q.number
      tells x q e = dite (ℕ_discrete x h)
          (λ same. subst (λ (z : ℕ). IsNotice g z (records_before z g (i + 1)) q.hart q.number) (sym same)
          (i, l, subst (λ (z : ℕ). IsRecord g i h z l) (sym own) next, told q (sym here ∙ (ap (λ (z : ℕ). get_or (set s.notices h o) z None) (sym same) ∙ e))))
          (λ ne. subst (λ (z : ℕ). IsNotice g x z q.hart q.number) (sym (other x ne)) (st.told x q (sym (get_or-set_other s.notices h x o None ne) ∙ e)))

      every : (x u k : ℕ) → x < 8 → IsNotice g x (records_before x g (i + 1)) u k → (q : Point) × (slice_index_or (set s.notices h o) x None ≡ Some q) × (q.hart ≡ u) × (q.number ≡ k)
      every x u k lx note = dite (ℕ_discrete x h)
          (λ same.
          let note' : IsNotice g h (records_before h g i + 1) u k = subst (λ (z : ℕ). IsNotice g h z u k) own (subst (λ (z : ℕ). IsNotice g z (records_before z g (i + 1)) u k) same note) in
          let e : note'.1 ≡ l = (one_place g h (records_before h g i + 1) note'.0 i note'.1 l note'.2 next).1 in
          let t = all u k (sym (ap (λ (z : Line). z.what) e) ∙ note'.3) in
          (t.0, ap (λ (z : ℕ). get_or (set s.notices h o) z None) same ∙ (here ∙ t.1), t.2, t.3))
          (λ ne. let t = st.all x u k lx (subst (λ (z : ℕ). IsNotice g x z u k) (other x ne) note) in (t.0, get_or-set_other s.notices h x o None ne ∙ t.1, t.2, t.3))

-- one line more has one event more, if it is one
pub events_more : (g : List Line) (i : ℕ) (l : Line) → get_elem? g i ≡ some l → events_of (take (suc i) g) ≡ events_of (take i g) ++ option_to_list (event_of l.what)
events_more [] i l at = absurd (some-ne-none l (sym at))
events_more (x ∷ g) zero l at = ends (event_of x.what) ∙ ap (λ (z : Line). option_to_list (event_of z.what)) (some-injective x l at)
  where
    ends : (o : Option Event) → cons_option o [] ≡ option_to_list o
    ends None = refl
    ends (Some e) = refl
events_more (x ∷ g) (suc i) l at = ap (cons_option (event_of x.what)) (events_more g i l at) ∙ moves (event_of x.what) (events_of (take i g)) (option_to_list (event_of l.what))
  where
    moves : (o : Option Event) (xs ys : List Event) → cons_option o (xs ++ ys) ≡ cons_option o xs ++ ys
    moves None xs ys = refl
    moves (Some e) xs ys = refl

abbrev events_up_to : List Line → ℕ → List Event
events_up_to g i = events_of (take i g)

-- an event at the next line
pub with_event : (g : List Line) (i : ℕ) (l : Line) (e : Event) → get_elem? g i ≡ some l → l.what ≡ entry.Event e → events_of (take (i + 1) g) ≡ events_of (take i g) ++ e ∷ []
with_event g i l e at is = let next : i + 1 ≡ suc i = omega arith in ap (events_up_to g) next ∙ (events_more g i l at ∙ ap (λ (z : Record). events_up_to g i ++ option_to_list (event_of z)) is)

pub with_notice : (g : List Line) (i : ℕ) (l : Line) (h : ℕ) (p : Point) → get_elem? g i ≡ some l → l.what ≡ entry.Notice h p → events_of (take (i + 1) g) ≡ events_of (take i g)
with_notice g i l h p at is = let next : i + 1 ≡ suc i = omega arith in ap (events_up_to g) next ∙ (events_more g i l at ∙ (ap (λ (z : Record). events_up_to g i ++ option_to_list (event_of z)) is ∙ append-nil (events_up_to g i)))

pub one_more : (xs : List Event) (e : Event) → length (xs ++ e ∷ []) ≡ length xs + 1
one_more xs e = length-append xs (e ∷ [])

abbrev bit : Bool → ℕ
bit b = if b then 1 else 0

on_more : (h : ℕ) (xs : List Event) (e : Event) → events_on h (xs ++ e ∷ []) ≡ events_on h xs + bit (eqb e.hart h)
on_more h xs e = sum_by-append (λ (z : Event). bit (eqb z.hart h)) xs (e ∷ []) ∙ ap (λ (z : ℕ). events_on h xs + z) (zero-add (bit (eqb e.hart h)))

pub on_own : (h : ℕ) (xs : List Event) (e : Event) → e.hart ≡ h → events_on h (xs ++ e ∷ []) ≡ events_on h xs + 1
on_own h xs e own = on_more h xs e ∙ ap (λ (b : Bool). events_on h xs + bit b) (eq-eqb e.hart h own)

pub on_other : (h : ℕ) (xs : List Event) (e : Event) → e.hart ≢ h → events_on h (xs ++ e ∷ []) ≡ events_on h xs
on_other h xs e other = on_more h xs e ∙ (ap (λ (b : Bool). events_on h xs + bit b) (ne_eqb e.hart h other) ∙ (let z : events_on h xs + 0 ≡ events_on h xs = omega arith in z))

-- the count of the event's hart is one up, the others stay
pub numbered : (xs : List Event) (e : Event) (es : List ℕ) (n : ℕ) → length es ≡ 8 → e.hart < 8 → ((x : ℕ) → x < 8 → slice_index es x ≡ events_on x xs) → n ≡ slice_index es e.hart + 1
    → (x : ℕ) → x < 8 → slice_index (set es e.hart n) x ≡ events_on x (xs ++ e ∷ [])
numbered xs e es n long low each is x lx = dite (ℕ_discrete x e.hart)
    (λ same. subst (λ (z : ℕ). slice_index (set es e.hart n) z ≡ events_on z (xs ++ e ∷ [])) (sym same)
    (get_or-set_same es e.hart n 0 (omega arith) ∙ (let o : events_on e.hart (xs ++ e ∷ []) ≡ events_on e.hart xs + 1 = on_own e.hart xs e refl in let b : slice_index es e.hart ≡ events_on e.hart xs = each e.hart low in let t : n ≡ events_on e.hart (xs ++ e ∷ []) = omega arith in t)))
    (λ ne. get_or-set_other es e.hart x n 0 ne ∙ (each x lx ∙ sym (on_other x xs e (λ z. ne (sym z)))))

-- before all lines
abbrev copies : {A : Type 0} → ℕ → A → List A
copies zero d = []
copies (suc n) d = d ∷ copies n d

copied : {A : Type 0} (n : ℕ) (d : A) (h : ℕ) → get_or (copies n d) h d ≡ d
copied zero d h = refl
copied (suc n) d zero = refl
copied (suc n) d (suc h) = copied n d h

pub eight : {A : Type 0} (d : A) (h : ℕ) → get_or (d ∷ d ∷ d ∷ d ∷ d ∷ d ∷ d ∷ d ∷ []) h d ≡ d
eight d h = copied 8 d h

-- a line without arcs on which no notice bears needs nothing
pub needs_bare : (harts : ℕ) (g : List Line) (flow : IsFlow harts g) (i h : ℕ) (l : Line) (next : IsNext g i h l) → l.arcs ≡ no_arcs
    → ((u n : ℕ) → u < 8 → (IsNotice g u n h (records_before h g i + 1) ⊎ IsAfter g u n h (records_before h g i + 1)) → ⊥)
    → no_arcs ≡ needs_of g h (records_before h g i + 1)
needs_bare harts g flow i h l next bare none = λ d.
    nothing 0 (omega arith) d ∷ nothing 1 (omega arith) d ∷ nothing 2 (omega arith) d ∷ nothing 3 (omega arith) d
    ∷ nothing 4 (omega arith) d ∷ nothing 5 (omega arith) d ∷ nothing 6 (omega arith) d ∷ nothing 7 (omega arith) d ∷ []
  where
    nothing : (u : ℕ) → u < 8 → None ≡ need_of g u h (records_before h g i + 1)
    nothing u low = sym (need_alone harts g flow i h l next u (λ n. none u n low)
        ∙ (ap (λ (arcs : List (Option ℕ)). slice_index_or arcs u None) bare ∙ eight None u))

pub tells_first : (s : Heads) (g : List Line) → s.place ≡ 0 → ((h : ℕ) → slice_index s.events h ≡ 0) → ((h : ℕ) → slice_index s.records h ≡ 0) → ((h : ℕ) → slice_index_or s.notices h None ≡ None) → Tells s g 0
tells_first s g first events zeros nones = record {
  place = first;
  events = λ h _. events h;
  records = λ h _. zeros h ∙ sym (before_none g h);
  told = λ h p e. absurd (let t : None ≡ Some p = sym (nones h) ∙ e in cc);
  all = λ h u n low note. absurd (let t : records_before h g note.0 + 1 ≡ records_before h g 0 = note.2.number in let z : records_before h g 0 ≡ 0 = before_none g h in omega arith);
  awaited = λ h p e. absurd (let t : None ≡ Some p = sym (nones h) ∙ e in cc);
}

-- how many events the first lines have, and how many of a hart
events_few : (g : List Line) (i : ℕ) → length (events_of (take i g)) ≤ i
events_few [] zero = omega arith
events_few [] (suc i) = omega arith
events_few (x ∷ g) zero = omega arith
events_few (x ∷ g) (suc i) = by (event_of x.what) (events_few g i)
  where
    by : (o : Option Event) → length (events_of (take i g)) ≤ i → length (cons_option o (events_of (take i g))) ≤ suc i
    by None l = omega arith
    by (Some e) l = omega arith

events_on_few : (h : ℕ) (xs : List Event) → events_on h xs ≤ length xs
events_on_few h xs = count_by-le-length (λ (z : Event). eqb z.hart h) xs

-- there is room for one line more
pub room : (harts : ℕ) (g : List Line) → IsFlow harts g → harts ≤ 8 → length g < 2 ^ 32 → (s : Heads) (i : ℕ) (l : Line) → Tells s g i → get_elem? g i ≡ some l
    → (hart_of l.what < 8) × (slice_index s.records (hart_of l.what) + 1 < 2 ^ 32) × (s.place + 1 < 2 ^ 32) × (slice_index s.events (hart_of l.what) + 1 < 2 ^ 32)
room harts g flow few short s i l st at =
    let h : ℕ = hart_of l.what in
    let low : h < harts = flow.within i h (records_before h g i + 1) l (record { at = at; hart = refl; number = refl }) in
    let eight : h < 8 = omega arith in
    let long : i < length g = inside g i l at in
    let rs : slice_index s.records h ≡ records_before h g i = st.records h eight in
    let rl : records_before h g i ≤ i = before_most g h i in
    let ps : s.place ≡ length (events_of (take i g)) = st.place in
    let pl : length (events_of (take i g)) ≤ i = events_few g i in
    let es : slice_index s.events h ≡ events_on h (events_of (take i g)) = st.events h eight in
    let el : events_on h (events_of (take i g)) ≤ length (events_of (take i g)) = events_on_few h (events_of (take i g)) in
    (eight, omega arith, omega arith, omega arith)

-- an event's line as a worker takes it
pub fed_event : (g : List Line) (i : ℕ) (l : Line) (s : Heads) → Tells s g i → get_elem? g i ≡ some l → hart_of l.what < 8 → (e : Event) → l.what ≡ entry.Event e
    → (r : ℕ) → r ≡ hart_of l.what → (needs : List (Option ℕ)) → needs ≡ needs_of g r (records_before r g i + 1)
    → record { place = s.place + 1; event_number = slice_index s.events r + 1; line = l; needs = needs } ≡ fed_at g i l
fed_event g i l s st at low e is r own needs need = λ d. record { place = place d; event_number = number d; line = l; needs = needs_are d }
  where
    he : hart_of l.what ≡ e.hart
    he = ap hart_of is

    place : s.place + 1 ≡ place_at g i l.what
    place = ap (λ (z : ℕ). z + 1) st.place ∙ (sym (one_more (events_of (take i g)) e) ∙ (ap (λ (z : List Event). length z) (sym (with_event g i l e at is)) ∙ ap (place_at g i) (sym is)))

    number : slice_index s.events r + 1 ≡ event_number_at g i l.what
    number = ap (λ (z : ℕ). slice_index s.events z + 1) (own ∙ he)
        ∙ (ap (λ (z : ℕ). z + 1) (st.events e.hart (subst (λ (z : ℕ). z < 8) he low))
        ∙ (sym (on_own e.hart (events_of (take i g)) e refl) ∙ (ap (λ (z : List Event). events_on e.hart z) (sym (with_event g i l e at is)) ∙ ap (event_number_at g i) (sym is))))

    needs_are : needs ≡ needs_of g (hart_of l.what) (records_before (hart_of l.what) g i + 1)
    needs_are = need ∙ ap (λ (z : ℕ). needs_of g z (records_before z g i + 1)) own

-- an event is passed
pub pass_event : (harts : ℕ) (g : List Line) → IsFlow harts g → (i : ℕ) (l : Line) → IsNext g i (hart_of l.what) l → (s : Heads) → Tells s g i → hart_of l.what < 8 → length s.events ≡ 8 → length s.records ≡ 8 → length s.notices ≡ 8
    → (e : Event) → l.what ≡ entry.Event e → (r : ℕ) → r ≡ hart_of l.what
    → Tells (record { place = s.place + 1; events = set s.events r (slice_index s.events r + 1); records = set s.records r (slice_index s.records r + 1); notices = set s.notices r None; awaited = s.awaited }) g (i + 1)
pass_event harts g flow i l next s st low long_e long_r long_o e is r own =
    subst (λ (z : ℕ). Tells (record { place = s.place + 1; events = set s.events z (slice_index s.events z + 1); records = set s.records z (slice_index s.records z + 1); notices = set s.notices z None; awaited = s.awaited }) g (i + 1)) (sym own)
    (passed harts g flow i (hart_of l.what) l next s st low long_r long_o None (slice_index s.records (hart_of l.what) + 1) (s.place + 1) (set s.events (hart_of l.what) (slice_index s.events (hart_of l.what) + 1)) told all refl placed numbers s.awaited named)
  where
    he : hart_of l.what ≡ e.hart
    he = ap hart_of is

    named : (x : ℕ) (q : Point) → slice_index_or (set s.notices (hart_of l.what) None) x None ≡ Some q → q.hart < 8 → q.number ≤ slice_index s.awaited q.hart
    named x q e = dite (ℕ_discrete x (hart_of l.what))
        (λ same. absurd (let f : None ≡ some_point q = sym (ap (λ (z : ℕ). get_or (set s.notices (hart_of l.what) None) z None) same ∙ get_or-set_same s.notices (hart_of l.what) None None (omega arith)) ∙ e in cc))
        (λ ne. st.awaited x q (sym (get_or-set_other s.notices (hart_of l.what) x None None ne) ∙ e))

    told : (q : Point) → None ≡ some_point q → l.what ≡ notice_of (hart_of l.what) q.hart q.number
    told q t = absurd (cc)

    all : (u k : ℕ) → l.what ≡ notice_of (hart_of l.what) u k → (q : Point) × (None ≡ some_point q) × (q.hart ≡ u) × (q.number ≡ k)
    all u k t = absurd (let f : entry.Event e ≡ notice_of (hart_of l.what) u k = sym is ∙ t in cc)

    placed : s.place + 1 ≡ length (events_of (take (i + 1) g))
    placed = ap (λ (z : ℕ). z + 1) st.place ∙ (sym (one_more (events_of (take i g)) e) ∙ ap (λ (z : List Event). length z) (sym (with_event g i l e next.at is)))

    numbers : (x : ℕ) → x < 8 → slice_index (set s.events (hart_of l.what) (slice_index s.events (hart_of l.what) + 1)) x ≡ events_on x (events_of (take (i + 1) g))
    numbers x lx = subst (λ (z : ℕ). slice_index (set s.events z (slice_index s.events z + 1)) x ≡ events_on x (events_of (take (i + 1) g))) (sym he)
        (numbered (events_of (take i g)) e s.events (slice_index s.events e.hart + 1) long_e (subst (λ (z : ℕ). z < 8) he low) st.events refl x lx ∙ ap (λ (z : List Event). events_on x z) (sym (with_event g i l e next.at is)))

-- a notice is passed
pub pass_notice : (harts : ℕ) (g : List Line) → IsFlow harts g → (i : ℕ) (l : Line) → IsNext g i (hart_of l.what) l → (s : Heads) → Tells s g i → hart_of l.what < 8 → length s.records ≡ 8 → length s.notices ≡ 8
    → (h : ℕ) (p : Point) → l.what ≡ entry.Notice h p → (r : ℕ) → r ≡ hart_of l.what
    → (names : List ℕ) → ((x : ℕ) → slice_index s.awaited x ≤ slice_index names x) → (p.hart < 8 → p.number ≤ slice_index names p.hart)
    → Tells (record { place = s.place; events = s.events; records = set s.records r (slice_index s.records r + 1); notices = set s.notices r (Some p); awaited = names }) g (i + 1)
pass_notice harts g flow i l next s st low long_r long_o h p is r own names kept new =
    subst (λ (z : ℕ). Tells (record { place = s.place; events = s.events; records = set s.records z (slice_index s.records z + 1); notices = set s.notices z (Some p); awaited = names }) g (i + 1)) (sym own)
    (passed harts g flow i (hart_of l.what) l next s st low long_r long_o (Some p) (slice_index s.records (hart_of l.what) + 1) s.place s.events told all refl placed numbers names named)
  where
    named : (x : ℕ) (q : Point) → slice_index_or (set s.notices (hart_of l.what) (Some p)) x None ≡ Some q → q.hart < 8 → q.number ≤ slice_index names q.hart
    named x q e below = dite (ℕ_discrete x (hart_of l.what))
        (λ same.
        let f : some_point p ≡ some_point q = sym (ap (λ (z : ℕ). get_or (set s.notices (hart_of l.what) (Some p)) z None) same ∙ get_or-set_same s.notices (hart_of l.what) (Some p) None (omega arith)) ∙ e in
        let is_p : p ≡ q = cc in
        subst (λ (z : Point). z.number ≤ slice_index names z.hart) is_p (new (subst (λ (z : Point). z.hart < 8) (sym is_p) below)))
        (λ ne.
        let was : q.number ≤ slice_index s.awaited q.hart = st.awaited x q (sym (get_or-set_other s.notices (hart_of l.what) x (Some p) None ne) ∙ e) below in
        let up : slice_index s.awaited q.hart ≤ slice_index names q.hart = kept q.hart in
        omega arith)

    hh : h ≡ hart_of l.what
    hh = sym (ap hart_of is)

    told : (q : Point) → some_point p ≡ Some q → l.what ≡ notice_of (hart_of l.what) q.hart q.number
    told q t = let same : p ≡ q = cc in is ∙ (λ d. entry.Notice (hh d) (same d))

    all : (u k : ℕ) → l.what ≡ notice_of (hart_of l.what) u k → (q : Point) × (some_point p ≡ Some q) × (q.hart ≡ u) × (q.number ≡ k)
    all u k t =
        let f : entry.Notice h p ≡ notice_of (hart_of l.what) u k = sym is ∙ t in
        let same : p ≡ record { hart = u; number = k } = cc in
        (p, refl, ap (λ (z : Point). z.hart) same, ap (λ (z : Point). z.number) same)

    placed : s.place ≡ length (events_of (take (i + 1) g))
    placed = st.place ∙ ap (λ (z : List Event). length z) (sym (with_notice g i l h p next.at is))

    numbers : (x : ℕ) → x < 8 → slice_index s.events x ≡ events_on x (events_of (take (i + 1) g))
    numbers x lx = st.events x lx ∙ ap (λ (z : List Event). events_on x z) (sym (with_notice g i l h p next.at is))

-- the lines from a position on, where it is of a hart or not
pub keeps_own : (h : ℕ) (g : List Line) (i : ℕ) (l : Line) (rest : List Line) → hart_of l.what ≡ h → filter (λ (fed : Fed). is_of h fed.line) (feds_from g i (l ∷ rest)) ≡ fed_at g i l ∷ filter (λ (fed : Fed). is_of h fed.line) (feds_from g (suc i) rest)
keeps_own h g i l rest own = ap (λ (b : Bool). if b then fed_at g i l ∷ filter (λ (fed : Fed). is_of h fed.line) (feds_from g (suc i) rest) else filter (λ (fed : Fed). is_of h fed.line) (feds_from g (suc i) rest)) (eq-eqb (hart_of l.what) h own)

pub skips_other : (h : ℕ) (g : List Line) (i : ℕ) (l : Line) (rest : List Line) → (hart_of l.what ≢ h) → filter (λ (fed : Fed). is_of h fed.line) (feds_from g i (l ∷ rest)) ≡ filter (λ (fed : Fed). is_of h fed.line) (feds_from g (suc i) rest)
skips_other h g i l rest other = ap (λ (b : Bool). if b then fed_at g i l ∷ filter (λ (fed : Fed). is_of h fed.line) (feds_from g (suc i) rest) else filter (λ (fed : Fed). is_of h fed.line) (feds_from g (suc i) rest)) (ne_eqb (hart_of l.what) h other)

pub drop_here : (g : List Line) (i : ℕ) (l : Line) → get_elem? g i ≡ some l → drop i g ≡ l ∷ drop (suc i) g
drop_here [] i l at = absurd (some-ne-none l (sym at))
drop_here (x ∷ g) zero l at = ap (λ (z : Line). z ∷ g) (some-injective x l at)
drop_here (x ∷ g) (suc i) l at = drop_here g i l at

pub got : (g : List Line) (i : ℕ) (l : Line) → slice_get g i ≡ Some l → get_elem? g i ≡ some l
got [] i l e = absurd (let t : None ≡ some_line l = e in cc)
got (x ∷ g) zero l e = let same : x ≡ l = cc in ap some same
got (x ∷ g) (suc i) l e = got g i l e

abbrev lines_of : ℕ → List Fed → List Fed
lines_of h feds = filter (λ (fed : Fed). is_of h fed.line) feds

moved : (xs : List Fed) (x : Fed) (rest : List Fed) → (xs ++ x ∷ []) ++ rest ≡ xs ++ x ∷ rest
moved [] x rest = refl
moved (y ∷ xs) x rest = ap (λ (z : List Fed). y ∷ z) (moved xs x rest)

-- a line of the hart goes from the lines to come to those that are told
pub told_own : (h : ℕ) (g : List Line) (i : ℕ) (l : Line) (xs ys all : List Fed) (fed : Fed) → hart_of l.what ≡ h → get_elem? g i ≡ some l → fed ≡ fed_at g i l
    → xs ++ lines_of h (feds_from g i (drop i g)) ≡ all → ys ≡ xs ++ fed ∷ [] → ys ++ lines_of h (feds_from g (i + 1) (drop (i + 1) g)) ≡ all
told_own h g i l xs ys all fed own at is told now =
    let next : i + 1 ≡ suc i = omega arith in
    ap (λ (z : ℕ). ys ++ lines_of h (feds_from g z (drop z g))) next
    ∙ (ap (λ (z : List Fed). z ++ lines_of h (feds_from g (suc i) (drop (suc i) g))) now
    ∙ (moved xs fed (lines_of h (feds_from g (suc i) (drop (suc i) g)))
    ∙ (ap (λ (z : Fed). xs ++ z ∷ lines_of h (feds_from g (suc i) (drop (suc i) g))) is
    ∙ (ap (λ (z : List Fed). xs ++ z) (sym (keeps_own h g i l (drop (suc i) g) own))
    ∙ (ap (λ (z : List Line). xs ++ lines_of h (feds_from g i z)) (sym (drop_here g i l at)) ∙ told)))))

-- a line of another hart goes from the lines to come alone
pub told_other : (h : ℕ) (g : List Line) (i : ℕ) (l : Line) (xs ys all : List Fed) → (hart_of l.what ≢ h) → get_elem? g i ≡ some l
    → xs ++ lines_of h (feds_from g i (drop i g)) ≡ all → ys ≡ xs → ys ++ lines_of h (feds_from g (i + 1) (drop (i + 1) g)) ≡ all
told_other h g i l xs ys all other at told now =
    let next : i + 1 ≡ suc i = omega arith in
    ap (λ (z : ℕ). ys ++ lines_of h (feds_from g z (drop z g))) next
    ∙ (ap (λ (z : List Fed). z ++ lines_of h (feds_from g (suc i) (drop (suc i) g))) now
    ∙ (ap (λ (z : List Fed). xs ++ z) (sym (skips_other h g i l (drop (suc i) g) other))
    ∙ (ap (λ (z : List Line). xs ++ lines_of h (feds_from g i z)) (sym (drop_here g i l at)) ∙ told)))

pub told_none : (h : ℕ) (g : List Line) (xs : List Fed) → xs ≡ [] → xs ++ lines_of h (feds_from g 0 (drop 0 g)) ≡ lines_of h (feds_from g 0 g)
told_none h g xs e = ap (λ (z : List Fed). z ++ lines_of h (feds_from g 0 g)) e

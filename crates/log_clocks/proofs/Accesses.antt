-- The last accesses of each hart, line by line.
use Rattle.std.proofs.Common.{◌≡◌, ◌≢◌, ℕ, zero, suc, ◌+◌, ◌<◌, ◌≤◌, ◌⊎◌, Bool, true, false, List, max, Option, Some, None, refl, sym, ap, ◌∙◌, subst, inl, inr, ⊎_elim, arith}
use mathlib.Core.Option.{some, some-injective}
use mathlib.Core.Logic.{dite}
use native.Mathlib.Decide.{ℕ_discrete}
use Rattle.pl_event.specs.declared.event.Event.{Event}
use Rattle.pl_event.specs.declared.event.Kind.{Kind}
use Rattle.pl_base.specs.declared.widths.LoadWidth.{LoadWidth}
use Rattle.pl_base.specs.declared.widths.StoreWidth.{StoreWidth}
use Rattle.pl_event.specs.declared.event.Kind.TheVariants.{Ld, St, Op, Mv, Im, Br, Jr, Al, Fr, Bf, Mp, Um, Rd, Wr, Ex, Ft}
use Rattle.pl_event.specs.declared.log.Line.{Line}
use Rattle.pl_event.specs.declared.log.Record.TheVariants as entry
use Rattle.pl_event.specs.Candidates.{Shares}
use Rattle.pl_event.specs.Conflicts.{Access, access_of, ShareBlock}
use Rattle.pl_event.specs.Needs.{IsMost}
use Rattle.pl_event.specs.Records.{records_before, IsRecord, IsEvent}
use Rattle.pl_event.proofs.Places.{before_up, one_place}
use Rattle.log_clocks.specs.declared.lasts.LastAccesses.{LastAccesses}
use Rattle.log_clocks.specs.LastAccesses.{last, IsAccess, HasLast}
use Rattle.pl_event.specs.Edges.{some_number}
use Rattle.log_clocks.specs.inner.Rows.{row_at, newest, IsIndexed}

line_at : {x y : Line} → some x ≡ some y → x ≡ y
line_at {x} {y} e = some-injective x y e

same_event : {a b : Event} → entry.Event a ≡ entry.Event b → a ≡ b
same_event e = cc

-- an event is at one position
pub one_event : (g : List Line) (i j m : ℕ) (a b : Event) → a.hart ≡ b.hart → IsEvent g i m a → IsEvent g j m b → (i ≡ j) × (a ≡ b)
one_event g i j m a b hart x y =
    let t = one_place g b.hart m i j x.0 y.0 (subst (λ (z : ℕ). IsRecord g i z m x.0) hart x.1) y.1 in
    (t.0, same_event (sym x.2 ∙ (ap (λ (z : Line). z.what) t.1 ∙ y.2)))

abbrev access_in : ℕ → Bool → Access
access_in block store = record { block = block; store = store }

abbrev some_access : Access → Option Access
some_access a = Some a

abbrev no_access_at : Option Access
no_access_at = None

same_access : {a b : Access} → some_access a ≡ some_access b → a ≡ b
same_access e = cc

-- a position has one event
pub at_one : (g : List Line) (i n m : ℕ) (a b : Event) → IsEvent g i n a → IsEvent g i m b → a ≡ b
at_one g i n m a b x y =
    let line : x.0 ≡ y.0 = line_at (sym x.1.at ∙ y.1.at) in
    same_event (sym x.2 ∙ (ap (λ (z : Line). z.what) line ∙ y.2))

same_bool : (a b : Bool) → (a ≡ b) ⊎ (a ≡ b → ⊥)
same_bool true true = inl refl
same_bool false false = inl refl
same_bool true false = inr (λ e. cc)
same_bool false true = inr (λ e. cc)

-- neither a load nor a store
pub no_access : (size : ℕ) (kind : Kind) → ((width : LoadWidth) (rd rb addr : ℕ) → kind ≡ Ld width rd rb addr → ⊥) → ((width : StoreWidth) (rv rb addr : ℕ) → kind ≡ St width rv rb addr → ⊥) → access_of size kind ≡ None
no_access size (Ld width rd rb addr) f g = absurd (f width rd rb addr refl)
no_access size (St width rv rb addr) f g = absurd (g width rv rb addr refl)
no_access size (Op rd r1 r2) f g = refl
no_access size (Mv rd rs) f g = refl
no_access size (Im rd) f g = refl
no_access size (Br r1 r2) f g = refl
no_access size (Jr rd rs) f g = refl
no_access size (Al addr len) f g = refl
no_access size (Fr addr len) f g = refl
no_access size (Bf addr) f g = refl
no_access size (Mp page count) f g = refl
no_access size (Um page count) f g = refl
no_access size (Rd addr len) f g = refl
no_access size (Wr addr len) f g = refl
no_access size Ex f g = refl
no_access size (Ft cause addr) f g = refl

pub nothing_last : (lasts : LastAccesses) (size : ℕ) (g : List Line) → lasts.size ≡ size → IsIndexed lasts.index.items lasts.rows.items → ((b : ℕ) (s : Bool) (u : ℕ) → last lasts b s u ≡ 0) → HasLast lasts size g 0
nothing_last lasts size g sized indexed zeros = record {
  sized = sized;
  told = λ u block store least. absurd (let z : last lasts block store u ≡ 0 = zeros block store u in omega arith);
  every = λ u n block store a. absurd (let l : a.0 < 0 = a.2 in omega arith);
  indexed = indexed;
}

module _ (size : ℕ) (g : List Line) (i : ℕ) where
  widen : (u n block : ℕ) (store : Bool) → IsAccess size g i u n block store → IsAccess size g (i + 1) u n block store
  widen u n block store a = (a.0, a.1, (let l : a.0 < i = a.2 in omega arith), a.3, a.4, a.5)

  narrow : (u n block : ℕ) (store : Bool) (a : IsAccess size g (i + 1) u n block store) → (a.0 ≡ i → ⊥) → IsAccess size g i u n block store
  narrow u n block store a ne = (a.0, a.1, (let l : a.0 < i + 1 = a.2 in let o : a.0 ≡ i → ⊥ = ne in omega arith), a.3, a.4, a.5)

  -- the line is no access
  pub still_last : (old : LastAccesses) → HasLast old size g i → ((n : ℕ) (event : Event) → IsEvent g i n event → access_of size event.kind ≡ None) → HasLast old size g (i + 1)
  still_last old has none = record {
    sized = has.sized;
    told = λ u block store least. widen u (last old block store u) block store (has.told u block store least);
    every = λ u n block store a. dite (ℕ_discrete a.0 i)
        (λ e. absurd (let f : no_access_at ≡ some_access (access_in block store) = sym (none n a.1 (subst (λ (z : ℕ). IsEvent g z n a.1) e a.3)) ∙ a.5 in cc))
        (λ ne. has.every u n block store (narrow u n block store a ne));
    indexed = has.indexed;
  }

  -- the line is an access
  module _ (old new : LastAccesses) (has : HasLast old size g i) (number : ℕ) (event : Event) (is : IsEvent g i number event) (block : ℕ) (store : Bool)
      (access : access_of size event.kind ≡ Some (record { block = block; store = store })) (sized : new.size ≡ old.size)
      (noted : IsIndexed new.index.items new.rows.items × (last new block store event.hart ≡ number)
      × ((b : ℕ) (s : Bool) (u : ℕ) → ((b ≡ block) × (s ≡ store) × (u ≡ event.hart) → ⊥) → last new b s u ≡ last old b s u)) where
    abbrev Here : ℕ → Bool → ℕ → Type 0
    Here b s u = (b ≡ block) × (s ≡ store) × (u ≡ event.hart)

    decided : (b : ℕ) (s : Bool) (u : ℕ) → Here b s u ⊎ (Here b s u → ⊥)
    decided b s u = dite (ℕ_discrete b block)
        (λ eb. dite (ℕ_discrete u event.hart)
        (λ eu. ⊎_elim (λ (es : s ≡ store). inl (eb, es, eu)) (λ (ns : s ≡ store → ⊥). inr (λ t. ns t.1)) (same_bool s store))
        (λ nu. inr (λ t. nu t.2)))
        (λ nb. inr (λ t. nb t.0))

    told_more : (u b : ℕ) (s : Bool) → 1 ≤ last new b s u → IsAccess size g (i + 1) u (last new b s u) b s
    told_more u b s least = ⊎_elim
        (λ (t : Here b s u). subst (λ (z : ℕ × Bool × ℕ). IsAccess size g (i + 1) z.2 (last new z.0 z.1 z.2) z.0 z.1) (λ d. (sym t.0 d, sym t.1 d, sym t.2 d))
        (i, event, omega arith, subst (λ (z : ℕ). IsEvent g i z event) (sym noted.1) is, refl, access))
        (λ (no : Here b s u → ⊥). let e : last new b s u ≡ last old b s u = noted.2 b s u no in
        subst (λ (z : ℕ). IsAccess size g (i + 1) u z b s) (sym e) (widen u (last old b s u) b s (has.told u b s (omega arith))))
        (decided b s u)

    last_here : (b : ℕ) (s : Bool) (u : ℕ) → Here b s u → last new b s u ≡ number
    last_here b s u t = (λ d. last new (t.0 d) (t.1 d) (t.2 d)) ∙ noted.1

    rising : (u n j : ℕ) (a : Event) → j < i → IsEvent g j n a → a.hart ≡ u → u ≡ event.hart → n ≤ number
    rising u n j a low x own same =
        let p : records_before event.hart g j + 1 ≡ n = subst (λ (z : ℕ). records_before z g j + 1 ≡ n) (own ∙ same) x.1.number in
        let q : records_before event.hart g i + 1 ≡ number = is.1.number in
        let r : records_before event.hart g j ≤ records_before event.hart g i = before_up g j i event.hart (omega arith) in
        omega arith

    every_now : (u n b : ℕ) (s : Bool) (a : IsAccess size g (i + 1) u n b s) → a.0 ≡ i → n ≤ last new b s u
    every_now u n b s a e =
        let x : IsEvent g i n a.1 = subst (λ (z : ℕ). IsEvent g z n a.1) e a.3 in
        let same : a.1 ≡ event = at_one g i n number a.1 event x is in
        let acc : some_access (access_in b s) ≡ some_access (access_in block store) = sym a.5 ∙ (ap (λ (z : Event). access_of size z.kind) same ∙ access) in
        let f : access_in b s ≡ access_in block store = same_access acc in
        let hart : u ≡ event.hart = sym a.4 ∙ ap (λ (z : Event). z.hart) same in
        let l : last new b s u ≡ number = last_here b s u (ap (λ (z : Access). z.block) f, ap (λ (z : Access). z.store) f, hart) in
        let p : records_before event.hart g i + 1 ≡ n = subst (λ (z : Event). records_before z.hart g i + 1 ≡ n) same x.1.number in
        let q : records_before event.hart g i + 1 ≡ number = is.1.number in
        omega arith

    every_more : (u n b : ℕ) (s : Bool) → IsAccess size g (i + 1) u n b s → n ≤ last new b s u
    every_more u n b s a = dite (ℕ_discrete a.0 i)
        (every_now u n b s a)
        (λ ne. let before = narrow u n b s a ne in
        let l : n ≤ last old b s u = has.every u n b s before in
        ⊎_elim
        (λ (t : Here b s u). let e : last new b s u ≡ number = last_here b s u t in let up : n ≤ number = rising u n before.0 before.1 before.2 before.3 before.4 t.2 in omega arith)
        (λ (no : Here b s u → ⊥). let e : last new b s u ≡ last old b s u = noted.2 b s u no in omega arith)
        (decided b s u))

    pub more_last : HasLast new size g (i + 1)
    more_last = record {
      sized = sized ∙ has.sized;
      told = told_more;
      every = every_more;
      indexed = noted.0;
    }

share : (o : Option Access) (block : ℕ) (store : Bool) → ShareBlock o (Some (record { block = block; store = store })) → (a : Access) × (o ≡ Some a) × (a.block ≡ block) × ((a.store ≡ true) ⊎ (store ≡ true))
share None block store s = absurd s
share (Some a) block store s = (a, refl, s.0, s.1)

no_share : (o : Option Access) → ShareBlock o None → ⊥
no_share None s = s
no_share (Some a) s = s

-- the candidates of the next event
module _ (lasts : LastAccesses) (size : ℕ) (g : List Line) (i m : ℕ) (has : HasLast lasts size g i) (b : Event) (is : IsEvent g i m b) where
  pub own_none : IsMost (λ k. Shares size g b.hart k b.hart m) None
  own_none k s = s.pair.apart (s.first ∙ sym s.second)

  pub no_candidate : access_of size b.kind ≡ None → (u : ℕ) → IsMost (λ k. Shares size g u k b.hart m) None
  no_candidate none u k s =
      let t = one_event g s.j i m s.b b s.second s.pair.second is in
      no_share (access_of size s.a.kind) (subst (λ (o : Option Access). ShareBlock (access_of size s.a.kind) o) (ap (λ (z : Event). access_of size z.kind) t.1 ∙ none) s.block)

  module _ (block : ℕ) (store : Bool) (access : access_of size b.kind ≡ Some (record { block = block; store = store })) (u : ℕ) (apart : u ≢ b.hart) where
    abbrev Candidate : ℕ → Type 0
    Candidate k = Shares size g u k b.hart m

    abbrev most : ℕ
    most = newest (row_at lasts.index.items lasts.rows.items block) store u

    shares : (other : Bool) → 1 ≤ last lasts block other u → (other ≡ true) ⊎ (store ≡ true) → Candidate (last lasts block other u)
    shares other least stored =
        let a = has.told u block other least in
        record {
          i = a.0;
          j = i;
          a = a.1;
          b = b;
          pair = record { before = a.2; first = a.3; second = is; apart = λ e. apart (sym a.4 ∙ e) };
          first = a.4;
          second = refl;
          block = subst (λ (z : Option Access × Option Access). ShareBlock z.0 z.1) (λ d. (sym a.5 d, sym access d)) (refl, stored);
        }

    found : (s : Bool) → store ≡ s → 1 ≤ newest (row_at lasts.index.items lasts.rows.items block) s u → Candidate (newest (row_at lasts.index.items lasts.rows.items block) s u)
    found false e least = shares true least (inl refl)
    found true e least = dite (ℕ_discrete (max (last lasts block true u) (last lasts block false u)) (last lasts block true u))
        (λ same. subst Candidate (sym same) (shares true (omega arith) (inl refl)))
        (λ ne. let l : max (last lasts block true u) (last lasts block false u) ≡ last lasts block false u = let n : max (last lasts block true u) (last lasts block false u) ≡ last lasts block true u → ⊥ = ne in omega arith in
        subst Candidate (sym l) (shares false (omega arith) (inr e)))

    within : (s other : Bool) → (other ≡ true) ⊎ (s ≡ true) → last lasts block other u ≤ newest (row_at lasts.index.items lasts.rows.items block) s u
    within true true t = omega arith
    within true false t = omega arith
    within false true t = omega arith
    within false false t = absurd (⊎_elim (λ (e : false ≡ true). cc) (λ (e : false ≡ true). cc) t)

    bounded : (k : ℕ) → Candidate k → (1 ≤ k) × (k ≤ most)
    bounded k s =
        let t = one_event g s.j i m s.b b s.second s.pair.second is in
        let a = share (access_of size s.a.kind) block store (subst (λ (o : Option Access). ShareBlock (access_of size s.a.kind) o) (ap (λ (z : Event). access_of size z.kind) t.1 ∙ access) s.block) in
        let low : s.i < i = subst (λ (z : ℕ). s.i < z) t.0 s.pair.before in
        let acc : access_of size s.a.kind ≡ Some (record { block = block; store = a.0.store }) = a.1 ∙ (λ d. Some (record { block = a.2 d; store = a.0.store })) in
        let l : k ≤ last lasts block a.0.store u = has.every u k block a.0.store (s.i, s.a, low, s.pair.first, s.first, acc) in
        let w : last lasts block a.0.store u ≤ most = within store a.0.store a.3 in
        let n : records_before s.a.hart g s.i + 1 ≡ k = s.pair.first.1.number in
        (omega arith, omega arith)

    pub all_known : (t : ℕ) → most ≤ t → (k : ℕ) → Candidate k → k ≤ t
    all_known t le k s = let b = bounded k s in let l : k ≤ most = b.1 in omega arith

    pub one_unknown : (t : ℕ) → t < most → ((k : ℕ) → Candidate k → k ≤ t) → ⊥
    one_unknown t less all = let l : most ≤ t = all most (found store refl (omega arith)) in omega arith

    pub candidate : IsMost Candidate (some_number most)
    candidate = by most refl
      where
        by : (x : ℕ) → most ≡ x → IsMost Candidate (some_number x)
        by zero e = λ k s. let t = bounded k s in let l : k ≤ most = t.1 in let p : 1 ≤ k = t.0 in absurd (omega arith)
        by (suc x) e = (subst Candidate e (found store refl (omega arith)), λ k s. let t = bounded k s in let l : k ≤ most = t.1 in omega arith)

-- The function of a log that gives what each record needs is its greatest source.
use Rattle.std.proofs.Common.{◌≡◌, ◌≢◌, ℕ, zero, suc, ◌+◌, ◌-◌, ◌<◌, ◌≤◌, ◌⊎◌, Bool, true, false, ◌&&◌, ◌||◌, eqb, List, [], ◌∷◌, length, Option, Some, None, is_some, refl, sym, ap, ◌∙◌, subst, inl, inr, ⊎_elim, arith, eq-eqb, ne_eqb, if◌then◌else◌}
use mathlib.Core.Option.{some, some-injective, some-ne-none}
use mathlib.Core.Logic.{dite}
use native.Mathlib.Decide.{ℕ_discrete}
use lib.ListN.{get_elem?}
use Rattle.pl_event.specs.declared.log.Line.{Line}
use Rattle.pl_event.specs.declared.log.Record.{Record}
use Rattle.pl_event.specs.declared.log.Record.TheVariants as entry
use Rattle.pl_event.specs.Numbers.{hart_of, is_of}
use Rattle.pl_event.specs.Records.{records_before, IsRecord, record_of}
use Rattle.pl_event.specs.Edges.{arc_of, notice_of, IsNotice, Into, IsFlow}
use Rattle.pl_event.specs.Needs.{is_number, has_arc, announces, is_notice, is_source, greatest, need_of, IsNeed, IsMost}
use Rattle.pl_event.proofs.Places.{eqb_is, before_up, before_own, inside}

abbrev bit : Bool → ℕ
bit b = if b then 1 else 0

abbrev some_line : Line → Option Line
some_line line = Some line

same_line : (a b : Line) → some_line a ≡ some_line b → a ≡ b
same_line a b e = cc

same_number : (a b : ℕ) → Some a ≡ Some b → a ≡ b
same_number a b e = cc

-- the function that looks a record up gives the record
pub found : (g : List Line) (i h m : ℕ) (l : Line) → IsRecord g i h m l → record_of g h m ≡ Some l
found g i h m l is = go g i m is.at is.number
  where
    go : (g : List Line) (i m : ℕ) → get_elem? g i ≡ some l → records_before h g i + 1 ≡ m → record_of g h m ≡ Some l
    go [] i m at n = absurd (some-ne-none l (sym at))
    go (x ∷ g) zero m at n =
        let same : x ≡ l = some-injective x l at in
        let t : is_of h x ≡ true = eq-eqb (hart_of x.what) h (ap (λ (z : Line). hart_of z.what) same ∙ is.hart) in
        let first : eqb m 1 ≡ true = eq-eqb m 1 (omega arith) in
        ap (λ (b : Bool). if b then (if eqb m 1 then some_line x else record_of g h (m - 1)) else record_of g h m) t
        ∙ (ap (λ (b : Bool). if b then some_line x else record_of g h (m - 1)) first ∙ ap some_line same)
    go (x ∷ g) (suc i) m at n = by (λ m n. go g i m at n) (is_of h x) refl n
      where
        by : ((m : ℕ) → records_before h g i + 1 ≡ m → record_of g h m ≡ Some l) → (b : Bool) → is_of h x ≡ b → (if b then 1 else 0) + records_before h g i + 1 ≡ m → record_of (x ∷ g) h m ≡ Some l
        by deep true e n =
            let later : eqb m 1 ≡ false = ne_eqb m 1 (λ z. absurd (omega arith)) in
            ap (λ (b : Bool). if b then (if eqb m 1 then some_line x else record_of g h (m - 1)) else record_of g h m) e
            ∙ (ap (λ (b : Bool). if b then some_line x else record_of g h (m - 1)) later ∙ deep (m - 1) (omega arith))
        by deep false e n =
            ap (λ (b : Bool). if b then (if eqb m 1 then some_line x else record_of g h (m - 1)) else record_of g h m) e ∙ deep m (omega arith)

pub at_position : (g : List Line) (h m : ℕ) (l : Line) → record_of g h m ≡ Some l → (i : ℕ) × IsRecord g i h m l
at_position [] h m l e = absurd (let t : None ≡ some_line l = e in cc)
at_position (x ∷ g) h m l e = by (at_position g h) (is_of h x) refl
  where
    deeper : (b : Bool) (k : ℕ) → is_of h x ≡ b → bit b + k ≡ m → (i : ℕ) × IsRecord g i h k l → (i : ℕ) × IsRecord (x ∷ g) i h m l
    deeper b k e n t = (suc t.0, record { at = t.1.at; hart = t.1.hart; number = (let o : records_before h g t.0 + 1 ≡ k = t.1.number in let c : bit (is_of h x) ≡ bit b = ap bit e in omega arith) })

    first_or : ((m : ℕ) (l : Line) → record_of g h m ≡ Some l → (i : ℕ) × IsRecord g i h m l) → (b : Bool) → eqb m 1 ≡ b → is_of h x ≡ true → (i : ℕ) × IsRecord (x ∷ g) i h m l
    first_or deep true one own =
        let f : some_line x ≡ some_line l = sym (ap (λ (b : Bool). if b then (if eqb m 1 then some_line x else record_of g h (m - 1)) else record_of g h m) own ∙ ap (λ (b : Bool). if b then some_line x else record_of g h (m - 1)) one) ∙ e in
        (0, record { at = ap some (same_line x l f); hart = ap (λ (z : Line). hart_of z.what) (sym (same_line x l f)) ∙ eqb_is (hart_of x.what) h own; number = (let o : m ≡ 1 = eqb_is m 1 one in omega arith) })
    first_or deep false other own =
        let f : record_of g h (m - 1) ≡ Some l = sym (ap (λ (b : Bool). if b then (if eqb m 1 then some_line x else record_of g h (m - 1)) else record_of g h m) own ∙ ap (λ (b : Bool). if b then some_line x else record_of g h (m - 1)) other) ∙ e in
        let t = deep (m - 1) l f in
        dite (ℕ_discrete m 0)
        (λ z. absurd (let o : records_before h g t.0 + 1 ≡ m - 1 = t.1.number in omega arith))
        (λ nz. deeper true (m - 1) own (let o : m ≡ 0 → ⊥ = nz in omega arith) t)

    by : ((m : ℕ) (l : Line) → record_of g h m ≡ Some l → (i : ℕ) × IsRecord g i h m l) → (b : Bool) → is_of h x ≡ b → (i : ℕ) × IsRecord (x ∷ g) i h m l
    by deep true own = first_or deep (eqb m 1) refl own
    by deep false other = deeper false m other (omega arith) (deep m l (sym (ap (λ (b : Bool). if b then (if eqb m 1 then some_line x else record_of g h (m - 1)) else record_of g h m) other) ∙ e))

and_both : (a b : Bool) → (a && b) ≡ true → (a ≡ true) × (b ≡ true)
and_both true b e = (refl, e)
and_both false b e = absurd (cc)

or_one : (a b : Bool) → (a || b) ≡ true → (a ≡ true) ⊎ (b ≡ true)
or_one true b e = inl refl
or_one false b e = inr e

or_left : (a b : Bool) → a ≡ true → (a || b) ≡ true
or_left a b e = ap (λ (z : Bool). z || b) e

or_right : (a b : Bool) → b ≡ true → (a || b) ≡ true
or_right true b e = refl
or_right false b e = e

and_true : (a b : Bool) → a ≡ true → b ≡ true → (a && b) ≡ true
and_true a b p q = ap (λ (z : Bool). z && b) p ∙ q

abbrev no_line : Option Line
no_line = None

-- what the tests say
tells_number : (n : ℕ) (o : Option ℕ) → is_number n o ≡ true → o ≡ Some n
tells_number n None e = absurd (cc)
tells_number n (Some k) e = ap (λ (z : ℕ). Some z) (eqb_is k n e)

number_tells : (n : ℕ) (o : Option ℕ) → o ≡ Some n → is_number n o ≡ true
number_tells n o e = ap (is_number n) e ∙ eq-eqb n n refl

tells_arc : (u n : ℕ) (o : Option Line) → has_arc u n o ≡ true → (l : Line) × (o ≡ Some l) × (arc_of l u ≡ Some n)
tells_arc u n None e = absurd (cc)
tells_arc u n (Some l) e = (l, refl, tells_number n (arc_of l u) e)

announced : (u n : ℕ) (r : Record) → announces u n r ≡ true → r ≡ notice_of (hart_of r) u n
announced u n (entry.Event event) e = absurd (cc)
announced u n (entry.Notice hart point) e =
    let t = and_both (eqb point.hart u) (eqb point.number n) e in
    let p : point ≡ record { hart = u; number = n } = λ i. record { hart = eqb_is point.hart u t.0 i; number = eqb_is point.number n t.1 i } in
    ap (entry.Notice hart) p

tells_notice : (u n : ℕ) (o : Option Line) → is_notice u n o ≡ true → (l : Line) × (o ≡ Some l) × (l.what ≡ notice_of (hart_of l.what) u n)
tells_notice u n None e = absurd (cc)
tells_notice u n (Some l) e = (l, refl, announced u n l.what e)

notice_tells : (u n : ℕ) (o : Option Line) (l : Line) (h : ℕ) → o ≡ Some l → l.what ≡ notice_of h u n → is_notice u n o ≡ true
notice_tells u n o l h e w = ap (is_notice u n) e ∙ (ap (announces u n) w ∙ and_true (eqb u u) (eqb n n) (eq-eqb u u refl) (eq-eqb n n refl))

tells_some : (o : Option Line) → is_some o ≡ true → (l : Line) × (o ≡ Some l)
tells_some None e = absurd (cc)
tells_some (Some l) e = (l, refl)

module _ (g : List Line) (u n h m : ℕ) where
  abbrev to_arc : Bool
  to_arc = has_arc u n (record_of g h m)

  abbrev to_after : Bool
  to_after = is_some (record_of g h m) && is_notice u n (record_of g h (m - 1))

  abbrev to_notice : Bool
  to_notice = is_notice h m (record_of g u n)

  noted : (v k w j : ℕ) → is_notice w j (record_of g v k) ≡ true → IsNotice g v k w j
  noted v k w j e =
      let t = tells_notice w j (record_of g v k) e in
      let s = at_position g v k t.0 t.1 in
      (s.0, t.0, s.1, t.2 ∙ ap (λ (z : ℕ). notice_of z w j) s.1.hart)

  note : (v k w j : ℕ) → IsNotice g v k w j → is_notice w j (record_of g v k) ≡ true
  note v k w j a = notice_tells w j (record_of g v k) a.1 v (found g a.0 v k a.1 a.2) a.3

  no_zero : (v : ℕ) (l : Line) → record_of g v 0 ≡ Some l → ⊥
  no_zero v l e = let t = at_position g v 0 l e in let o : records_before v g t.0 + 1 ≡ 0 = t.1.number in omega arith

  -- the test is the edge
  pub leads : is_source g u n h m ≡ true → Into g u n h m
  leads e = ⊎_elim
      (λ (x : (to_arc || to_after) ≡ true). ⊎_elim
      (λ (y : to_arc ≡ true). let t = tells_arc u n (record_of g h m) y in let s = at_position g h m t.0 t.1 in inl (s.0, t.0, s.1, t.2))
      (λ (y : to_after ≡ true).
      let both = and_both (is_some (record_of g h m)) (is_notice u n (record_of g h (m - 1))) y in
      let t = tells_some (record_of g h m) both.0 in
      let s = at_position g h m t.0 t.1 in
      let k : m - 1 + 1 ≡ m = let o : records_before h g s.0 + 1 ≡ m = s.1.number in omega arith in
      inr (inr (s.0, t.0, m - 1, s.1, k, noted h (m - 1) u n both.1)))
      (or_one to_arc to_after x))
      (λ (x : to_notice ≡ true). inr (inl (noted u n h m x)))
      (or_one (to_arc || to_after) to_notice e)

  pub led : Into g u n h m → is_source g u n h m ≡ true
  led (inl a) = or_left (to_arc || to_after) to_notice (or_left to_arc to_after (ap (has_arc u n) (found g a.0 h m a.1 a.2) ∙ number_tells n (arc_of a.1 u) a.3))
  led (inr (inl a)) = or_right (to_arc || to_after) to_notice (note u n h m a)
  led (inr (inr a)) =
      let k : m - 1 ≡ a.2 = let o : a.2 + 1 ≡ m = a.4 in omega arith in
      or_left (to_arc || to_after) to_notice (or_right to_arc to_after (and_true (is_some (record_of g h m)) (is_notice u n (record_of g h (m - 1)))
      (ap (λ (z : Option Line). is_some z) (found g a.0 h m a.1 a.3))
      (ap (λ (z : ℕ). is_notice u n (record_of g h z)) k ∙ note h a.2 u n a.5)))

-- the greatest number that passes a test
pub greatest_is : (f : ℕ → Bool) (b : ℕ) → IsMost (λ n. (1 ≤ n) × (n ≤ b) × (f n ≡ true)) (greatest f b)
greatest_is f zero = λ k t. let a : 1 ≤ k = t.0 in let l : k ≤ 0 = t.1 in omega arith
greatest_is f (suc b) = by (greatest_is f b) (f (suc b)) refl
  where
    weaker : (o : Option ℕ) → f (suc b) ≡ false → IsMost (λ n. (1 ≤ n) × (n ≤ b) × (f n ≡ true)) o → IsMost (λ n. (1 ≤ n) × (n ≤ suc b) × (f n ≡ true)) o
    weaker None fails most = λ k t. most k (t.0, (let l : k ≤ suc b = t.1 in let ne : k ≢ suc b = λ e. let x : f (suc b) ≡ true = ap f (sym e) ∙ t.2 in cc in omega arith), t.2)
    weaker (Some n) fails most = (
      (most.0.0, (let l : n ≤ b = most.0.1 in omega arith), most.0.2),
      λ k t. most.1 k (t.0, (let l : k ≤ suc b = t.1 in let ne : k ≢ suc b = λ e. let x : f (suc b) ≡ true = ap f (sym e) ∙ t.2 in cc in omega arith), t.2),
    )

    by : IsMost (λ n. (1 ≤ n) × (n ≤ b) × (f n ≡ true)) (greatest f b) → (c : Bool) → f (suc b) ≡ c → IsMost (λ n. (1 ≤ n) × (n ≤ suc b) × (f n ≡ true)) (greatest f (suc b))
    by deep true e = subst (IsMost (λ n. (1 ≤ n) × (n ≤ suc b) × (f n ≡ true))) (ap (λ (c : Bool). if c then Some (suc b) else greatest f b) (sym e)) ((omega arith, omega arith, e), λ k t. t.1)
    by deep false e = subst (IsMost (λ n. (1 ≤ n) × (n ≤ suc b) × (f n ≡ true))) (ap (λ (c : Bool). if c then Some (suc b) else greatest f b) (sym e)) (weaker (greatest f b) e deep)

pub same_most : (P Q : ℕ → Type 0) → ((n : ℕ) → P n → Q n) → ((n : ℕ) → Q n → P n) → (o : Option ℕ) → IsMost P o → IsMost Q o
same_most P Q to from None most = λ k q. most k (from k q)
same_most P Q to from (Some n) most = (to n most.0, λ k q. most.1 k (from k q))

-- the greatest number for which a fact holds is one
pub one_most : (P : ℕ → Type 0) (a b : Option ℕ) → IsMost P a → IsMost P b → a ≡ b
one_most P None None p q = refl
one_most P None (Some y) p q = absurd (p y q.0)
one_most P (Some x) None p q = absurd (q x p.0)
one_most P (Some x) (Some y) p q = let l : x ≤ y = q.1 x p.0 in let r : y ≤ x = p.1 y q.0 in let e : x ≡ y = omega arith in ap (λ (z : ℕ). Some z) e

module _ (harts : ℕ) (g : List Line) (flow : IsFlow harts g) where
  -- an edge comes from a record of the log
  pub source_is : (u n h m : ℕ) → Into g u n h m → (1 ≤ n) × (n ≤ records_before u g (length g))
  source_is u n h m (inl a) = let t = flow.arcs a.0 h m a.1 a.2 u n a.3 in
      let long : a.0 < length g = inside g a.0 a.1 a.2.at in
      let up : records_before u g a.0 ≤ records_before u g (length g) = before_up g a.0 (length g) u (omega arith) in
      let l : n ≤ records_before u g a.0 = t.3 in (t.2, omega arith)
  source_is u n h m (inr (inl a)) =
      let is : IsRecord g a.0 u n a.1 = a.2 in
      let number : records_before u g a.0 + 1 ≡ n = is.number in
      let long : a.0 < length g = inside g a.0 a.1 is.at in
      let own : records_before u g (a.0 + 1) ≡ records_before u g a.0 + 1 = before_own g a.0 u a.1 is.at is.hart in
      let up : records_before u g (a.0 + 1) ≤ records_before u g (length g) = before_up g (a.0 + 1) (length g) u (omega arith) in
      (omega arith, omega arith)
  source_is u n h m (inr (inr a)) =
      let is : IsRecord g a.0 h m a.1 = a.3 in
      let is' : IsRecord g a.0 h (a.2 + 1) a.1 = subst (λ (z : ℕ). IsRecord g a.0 h z a.1) (sym a.4) is in
      let r : n ≤ records_before u g a.0 = flow.closed a.0 h a.2 a.1 is' u n a.5 in
      let late = flow.notices a.5.0 h a.2 a.5.1 a.5.2 u n a.5.3 in
      let more : records_before u g a.5.0 < n = late.2 in
      let long : a.0 < length g = inside g a.0 a.1 is.at in
      let up : records_before u g a.0 ≤ records_before u g (length g) = before_up g a.0 (length g) u (omega arith) in
      (omega arith, omega arith)

  pub need_most : (u h m : ℕ) → IsMost (λ n. Into g u n h m) (need_of g u h m)
  need_most u h m = same_most (λ n. (1 ≤ n) × (n ≤ records_before u g (length g)) × (is_source g u n h m ≡ true)) (λ n. Into g u n h m)
      (λ n t. leads g u n h m t.2)
      (λ n e. let s = source_is u n h m e in (s.0, s.1, led g u n h m e))
      (need_of g u h m) (greatest_is (λ n. is_source g u n h m) (records_before u g (length g)))

  -- a need is an edge of the log
  pub need_edge : (u n h m : ℕ) → IsNeed g u n h m → Into g u n h m
  need_edge u n h m e = (subst (IsMost (λ k. Into g u k h m)) e (need_most u h m)).0

  -- an edge of the log is covered by a need
  pub edge_need : (u n h m : ℕ) → Into g u n h m → (k : ℕ) × (n ≤ k) × IsNeed g u k h m
  edge_need u n h m e = by (need_of g u h m) refl (need_most u h m)
    where
      by : (o : Option ℕ) → need_of g u h m ≡ o → IsMost (λ k. Into g u k h m) o → (k : ℕ) × (n ≤ k) × IsNeed g u k h m
      by None is most = absurd (most n e)
      by (Some k) is most = (k, most.1 n e, is)

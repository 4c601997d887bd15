-- The reports of the plain rules lie along the events, so by place they are found again from those of each hart.
use Rattle.std.proofs.Common.{◌≡◌, ◌≢◌, ℕ, suc, ◌+◌, ◌<◌, ◌≤◌, ◌⊎◌, Bool, true, false, List, [], ◌∷◌, ◌++◌, length, get_or, refl, sym, ap, ◌∙◌, subst, arith, inl, inr, ⊎_elim, append-nil, append_assoc, eq-eqb, lt_of_not-le}
use Rattle.std.specs.Prelude.{◌==◌, Option, Some, None, filter, if◌then◌else◌}
use Rattle.std.specs.List.Sorted.{IsNonDecreasingBy}
use Rattle.std.proofs.lemmas.Bool.{ne_eqb}
use Rattle.std.proofs.lemmas.List.{length_push}
use Rattle.std.proofs.lemmas.List.Elements.{filter-append}
use mathlib.Core.Option.{some}
use mathlib.Core.Logic.{dite}
use native.Mathlib.Decide.{ℕ_discrete, dec_le}
use lib.ListN.{get_elem?}
use Rattle.pl_event.specs.declared.event.Event.{Event}
use Rattle.pl_event.specs.declared.event.Kind.{Kind}
use Rattle.pl_event.specs.declared.log.Log.{Log}
use Rattle.pl_event.specs.Numbers.{events_of}
use Rattle.lifeguard.specs.declared.report.Report.{Report}
use Rattle.lifeguard.specs.declared.report.ReportKind.{ReportKind}
use Rattle.lifeguard.specs.declared.report.ReportKind.TheVariants as report
use Rattle.lifeguard.specs.declared.report.EventPlace.{EventPlace}
use Rattle.lifeguard.specs.Rules.{Rules}
use Rattle.lifeguard.specs.State.{State, first_state}
use Rattle.lifeguard.specs.Plain.{rule, place_after, plain_from, plain_result, reported, register_report, marked_register, bad_touch, bad_sent, is_taint, misdeed, misdeed_report, misdeeds, reports_of}
use Rattle.lifeguard.specs.Ranges.{reports_on}
use Rattle.turn_worker.specs.declared.worker.HartResult.{HartResult}
use Rattle.lifeguard_crew.specs.Merges.{all_reports, reports_at, IsByPlace, AreOfRun}

abbrev Every : (Report → Type 0) → List Report → Type 0
Every Q [] = Unit {0}
Every Q (x ∷ xs) = Q x × Every Q xs

every_append : (Q : Report → Type 0) (xs ys : List Report) → Every Q xs → Every Q ys → Every Q (xs ++ ys)
every_append Q [] ys a b = b
every_append Q (x ∷ xs) ys a b = (a.0, every_append Q xs ys a.1 b)

every_map : (Q R : Report → Type 0) → ((r : Report) → Q r → R r) → (xs : List Report) → Every Q xs → Every R xs
every_map Q R f [] a = tt
every_map Q R f (x ∷ xs) a = (f x a.0, every_map Q R f xs a.1)

every_if : (Q : Report → Type 0) (x : Report) (xs : List Report) (b : Bool) → Q x → Every Q xs → Every Q (if b then x ∷ xs else xs)
every_if Q x xs true a b = (a, b)
every_if Q x xs false a b = b

every_filter : (Q : Report → Type 0) (test : Report → Bool) (xs : List Report) → Every Q xs → Every Q (filter test xs)
every_filter Q test [] a = tt
every_filter Q test (x ∷ xs) a = every_if Q x (filter test xs) (test x) a.0 (every_filter Q test xs a.1)

-- ---- the reports of one event

abbrev IsOn : ℕ → ℕ → Report → Type 0
IsOn place hart r = (r.place ≡ place) × (r.hart ≡ hart)

module _ (at : EventPlace) where
  abbrev On : Report → Type 0
  On = IsOn at.place at.hart

  reported_on : (kind : ReportKind) (found : Option ℕ) → Every On (reported at kind found)
  reported_on kind None = tt
  reported_on kind (Some addr) = ((refl, refl), tt)

  misdeed_on : (deed : Option (ReportKind × ℕ)) → Every On (misdeed_report at deed)
  misdeed_on None = tt
  misdeed_on (Some deed) = ((refl, refl), tt)

  chosen_on : (left_out : Bool) (deed : Option (ReportKind × ℕ)) → Every On (if left_out then [] else misdeed_report at deed)
  chosen_on true deed = tt
  chosen_on false deed = misdeed_on deed

  event_on : (rules : Rules) (kind : Kind) (state : State) → Every On (reports_of rules at kind state)
  event_on rules kind state =
      let register = reported at (register_report kind) (marked_register rules state.masks at.hart kind) in
      let access = reported at report.Access (bad_touch rules state.bytes kind) in
      let sent = reported at report.Undef (bad_sent rules state.bytes kind) in
      every_append On (register ++ access ++ sent) (misdeeds rules at kind)
      (every_append On (register ++ access) sent
      (every_append On register access (reported_on (register_report kind) (marked_register rules state.masks at.hart kind)) (reported_on report.Access (bad_touch rules state.bytes kind)))
      (reported_on report.Undef (bad_sent rules state.bytes kind)))
      (chosen_on (is_taint rules.name) (misdeed kind))

-- ---- the reports of all events

-- those of one event after those of another; the first event has place n + 1
abbrev Along : ℕ → List Event → List Report → Type 0
Along n [] rs = rs ≡ []
Along n (e ∷ es) rs = (a : List Report) × (b : List Report) × (rs ≡ a ++ b) × Every (IsOn (n + 1) e.hart) a × Along (n + 1) es b

rule_reports : (rules : Rules) (at : EventPlace) (kind : Kind) (state : State) → (rule rules at kind state).reports ≡ state.reports ++ reports_of rules at kind state
unfolding rule
rule_reports rules at kind state = refl

plain_along : (rules : Rules) (before events : List Event) (state : State)
    → (rs : List Report) × ((plain_from rules before state events).reports ≡ state.reports ++ rs) × Along (length before) events rs
plain_along rules before [] state = ([], sym (append-nil state.reports), refl)
plain_along rules before (e ∷ es) state =
    let at = place_after before e in
    let a : List Report = reports_of rules at e.kind state in
    let next : State = rule rules at e.kind state in
    let rest = plain_along rules (before ++ e ∷ []) es next in
    let along : Along (length before + 1) es rest.0 = subst (λ (n : ℕ). Along n es rest.0) (length_push before e) rest.2 in
    let all : (plain_from rules (before ++ e ∷ []) next es).reports ≡ state.reports ++ (a ++ rest.0) =
    rest.1 ∙ (ap (λ (z : List Report). z ++ rest.0) (rule_reports rules at e.kind state) ∙ append_assoc state.reports a rest.0) in
    (a ++ rest.0, all, (a, rest.0, refl, event_on at rules e.kind state, along))

above : (n : ℕ) (es : List Event) (rs : List Report) → Along n es rs → Every (λ r. n < r.place) rs
above n [] rs along = subst (Every (λ r. n < r.place)) (sym along) tt
above n (e ∷ es) rs along =
    subst (Every (λ r. n < r.place)) (sym along.2)
    (every_append (λ r. n < r.place) along.0 along.1
    (every_map (IsOn (n + 1) e.hart) (λ r. n < r.place) (λ r on. let is : r.place ≡ n + 1 = on.0 in omega arith) along.0 along.3)
    (every_map (λ r. n + 1 < r.place) (λ r. n < r.place) (λ r lt. omega arith) along.1 (above (n + 1) es along.1 along.4)))

-- ---- reports at a place

at_self : (x : Report) (xs : List Report) → reports_at x.place (x ∷ xs) ≡ x ∷ reports_at x.place xs
at_self x xs = rw (eq-eqb x.place x.place refl) refl

at_other : (p : ℕ) (x : Report) (xs : List Report) → x.place ≢ p → reports_at p (x ∷ xs) ≡ reports_at p xs
at_other p x xs ne = rw (ne_eqb x.place p ne) refl

none_at : (p : ℕ) (xs : List Report) → Every (λ r. r.place ≢ p) xs → reports_at p xs ≡ []
none_at p [] all = refl
none_at p (x ∷ xs) all = at_other p x xs all.0 ∙ none_at p xs all.1

-- those at a place are of one hart
one_hart : (harts n : ℕ) (es : List Event) (rs : List Report) → Along n es rs
    → ((k : ℕ) (d : Event) → k < length es → (get_or es k d).hart < harts) → (p : ℕ)
    → (h : ℕ) × Every (λ r. r.hart ≡ h) (reports_at p rs) × ((h < harts) ⊎ (reports_at p rs ≡ []))
one_hart harts n [] rs along inside p =
    let none : reports_at p rs ≡ [] = ap (reports_at p) along in
    (0, subst (Every (λ r. r.hart ≡ 0)) (sym none) tt, inr none)
one_hart harts n (e ∷ es) rs along inside p =
    let a = along.0 in
    let b = along.1 in
    let parts : reports_at p rs ≡ reports_at p a ++ reports_at p b = ap (reports_at p) along.2 ∙ filter-append (λ (r : Report). r.place == p) a b in
    dite (ℕ_discrete p (n + 1))
    (λ here.
    let later : reports_at p b ≡ [] = none_at p b (every_map (λ r. n + 1 < r.place) (λ r. r.place ≢ p) (λ r lt is. omega arith) b (above (n + 1) es b along.4)) in
    let own : reports_at p rs ≡ reports_at p a = parts ∙ (ap (λ (z : List Report). reports_at p a ++ z) later ∙ append-nil (reports_at p a)) in
    let all : Every (λ r. r.hart ≡ e.hart) (reports_at p a) =
    every_filter (λ r. r.hart ≡ e.hart) (λ r. r.place == p) a (every_map (IsOn (n + 1) e.hart) (λ r. r.hart ≡ e.hart) (λ r on. on.1) a along.3) in
    (e.hart, subst (Every (λ r. r.hart ≡ e.hart)) (sym own) all, inl (inside 0 e (omega arith))))
    (λ other.
    let first : reports_at p a ≡ [] = none_at p a (every_map (IsOn (n + 1) e.hart) (λ r. r.place ≢ p) (λ r on is. other (sym is ∙ on.0)) a along.3) in
    let own : reports_at p rs ≡ reports_at p b = parts ∙ ap (λ (z : List Report). z ++ reports_at p b) first in
    let rest = one_hart harts (n + 1) es b along.4 (λ k d lt. inside (suc k) d (omega arith)) p in
    (rest.0, subst (Every (λ r. r.hart ≡ rest.0)) (sym own) rest.1, ⊎_elim (λ (lt : rest.0 < harts). inl lt) (λ (none : reports_at p b ≡ []). inr (own ∙ none)) rest.2))

-- ---- the reports of each hart, one after the other

one_test : (f : Report → Bool) (x : Report) (xs : List Report) (b : Bool) → f x ≡ b
    → filter f (x ∷ xs) ≡ (if b then x ∷ filter f xs else filter f xs)
one_test f x xs b p = ap (λ (z : Bool). if z then x ∷ filter f xs else filter f xs) p

two_more : (f g : Report → Bool) (x : Report) (xs : List Report) → filter f (filter g xs) ≡ filter g (filter f xs)
    → (a b : Bool) → f x ≡ a → g x ≡ b → filter f (filter g (x ∷ xs)) ≡ filter g (filter f (x ∷ xs))
two_more f g x xs rest true true p q =
    ap (filter f) (one_test g x xs true q) ∙ (one_test f x (filter g xs) true p ∙ (ap (λ (ys : List Report). x ∷ ys) rest
    ∙ sym (ap (filter g) (one_test f x xs true p) ∙ one_test g x (filter f xs) true q)))
two_more f g x xs rest true false p q =
    ap (filter f) (one_test g x xs false q) ∙ (rest
    ∙ sym (ap (filter g) (one_test f x xs true p) ∙ one_test g x (filter f xs) false q))
two_more f g x xs rest false true p q =
    ap (filter f) (one_test g x xs true q) ∙ (one_test f x (filter g xs) false p ∙ (rest
    ∙ sym (ap (filter g) (one_test f x xs false p))))
two_more f g x xs rest false false p q =
    ap (filter f) (one_test g x xs false q) ∙ (rest ∙ sym (ap (filter g) (one_test f x xs false p)))

two_tests : (f g : Report → Bool) (xs : List Report) → filter f (filter g xs) ≡ filter g (filter f xs)
two_tests f g [] = refl
two_tests f g (x ∷ xs) = two_more f g x xs (two_tests f g xs) (f x) (g x) refl refl

own_hart : (h : ℕ) (xs : List Report) → Every (λ r. r.hart ≡ h) xs → reports_on h xs ≡ xs
own_hart h [] all = refl
own_hart h (x ∷ xs) all = rw (eq-eqb x.hart h all.0) (ap (λ (ys : List Report). x ∷ ys) (own_hart h xs all.1))

other_hart : (h k : ℕ) (xs : List Report) → k ≢ h → Every (λ r. r.hart ≡ h) xs → reports_on k xs ≡ []
other_hart h k [] ne all = refl
other_hart h k (x ∷ xs) ne all = rw (ne_eqb x.hart k (λ e. ne (sym e ∙ all.0))) (other_hart h k xs ne all.1)

-- what all results say of a place, from number o on
module _ (rs : List Report) (p h : ℕ) (all : Every (λ r. r.hart ≡ h) (reports_at p rs)) where
  abbrev OfHarts : ℕ → List HartResult → Type 0
  OfHarts o results = (k : ℕ) (r : HartResult) → get_elem? results k ≡ some r → r.reports.items ≡ reports_on (o + k) rs

  first_of : (o : ℕ) (r : HartResult) (results : List HartResult) → OfHarts o (r ∷ results)
      → reports_at p (all_reports (r ∷ results)) ≡ reports_on o (reports_at p rs) ++ reports_at p (all_reports results)
  first_of o r results of =
      filter-append (λ (z : Report). z.place == p) r.reports.items (all_reports results)
      ∙ ap (λ (z : List Report). z ++ reports_at p (all_reports results))
      (ap (reports_at p) (of 0 r refl ∙ ap (λ (k : ℕ). reports_on k rs) (omega arith)) ∙ two_tests (λ r. r.place == p) (λ r. r.hart == o) rs)

  next_of : (o : ℕ) (r : HartResult) (results : List HartResult) → OfHarts o (r ∷ results) → OfHarts (o + 1) results
  next_of o r results of k x at = of (suc k) x at ∙ ap (λ (j : ℕ). reports_on j rs) (omega arith)

  none_of : (o : ℕ) (results : List HartResult) → OfHarts o results → (h < o) ⊎ (o + length results ≤ h) → reports_at p (all_reports results) ≡ []
  none_of o [] of out = refl
  none_of o (r ∷ results) of out =
      first_of o r results of
      ∙ (ap (λ (z : List Report). z ++ reports_at p (all_reports results))
      (other_hart h o (reports_at p rs) (λ e. ⊎_elim (λ (lt : h < o). absurd (omega arith)) (λ (le : o + length (r ∷ results) ≤ h). absurd (omega arith)) out) all)
      ∙ none_of (o + 1) results (next_of o r results of) (⊎_elim (λ (lt : h < o). inl (omega arith)) (λ (le : o + length (r ∷ results) ≤ h). inr (omega arith)) out))

  some_of : (o : ℕ) (results : List HartResult) → OfHarts o results → o ≤ h → h < o + length results → reports_at p (all_reports results) ≡ reports_at p rs
  some_of o [] of le lt = absurd (omega arith)
  some_of o (r ∷ results) of le lt = dite (ℕ_discrete h o)
      (λ here. first_of o r results of
      ∙ (ap (λ (k : ℕ). reports_on k (reports_at p rs) ++ reports_at p (all_reports results)) (sym here)
      ∙ (ap (λ (z : List Report). z ++ reports_at p (all_reports results)) (own_hart h (reports_at p rs) all)
      ∙ (ap (λ (z : List Report). reports_at p rs ++ z) (none_of (o + 1) results (next_of o r results of) (inl (omega arith)))
      ∙ append-nil (reports_at p rs)))))
      (λ other. first_of o r results of
      ∙ (ap (λ (z : List Report). z ++ reports_at p (all_reports results)) (other_hart h o (reports_at p rs) (λ e. other (sym e)) all)
      ∙ some_of (o + 1) results (next_of o r results of) (omega arith) (omega arith)))

-- ---- one list in order

abbrev Rises : List Report → Type 0
Rises [] = Unit {0}
Rises (x ∷ xs) = Every (λ r. x.place ≤ r.place) xs × Rises xs

every_index : (Q : Report → Type 0) (xs : List Report) → ((k : ℕ) (d : Report) → k < length xs → Q (get_or xs k d)) → Every Q xs
every_index Q [] f = tt
every_index Q (x ∷ xs) f = (f 0 x (omega arith), every_index Q xs (λ k d lt. f (suc k) d (omega arith)))

rises_index : (xs : List Report) → IsNonDecreasingBy (λ r. r.place) xs → Rises xs
rises_index [] s = tt
rises_index (x ∷ xs) s = (
  every_index (λ r. x.place ≤ r.place) xs (λ k d lt. s 0 (suc k) d (omega arith) (omega arith)),
  rises_index xs (λ i j d le lt. s (suc i) (suc j) d (omega arith) (omega arith)),
)

rises_append : (n : ℕ) (xs ys : List Report) → Every (λ r. r.place ≡ n) xs → Every (λ r. n < r.place) ys → Rises ys → Rises (xs ++ ys)
rises_append n [] ys a b r = r
rises_append n (x ∷ xs) ys a b r = (
  every_append (λ y. x.place ≤ y.place) xs ys
      (every_map (λ y. y.place ≡ n) (λ y. x.place ≤ y.place) (λ y is. let own : x.place ≡ n = a.0 in omega arith) xs a.1)
      (every_map (λ y. n < y.place) (λ y. x.place ≤ y.place) (λ y lt. let own : x.place ≡ n = a.0 in omega arith) ys b),
  rises_append n xs ys a.1 b r,
)

along_rises : (n : ℕ) (es : List Event) (rs : List Report) → Along n es rs → Rises rs
along_rises n [] rs along = subst Rises (sym along) tt
along_rises n (e ∷ es) rs along =
    subst Rises (sym along.2)
    (rises_append (n + 1) along.0 along.1 (every_map (IsOn (n + 1) e.hart) (λ r. r.place ≡ n + 1) (λ r on. on.0) along.0 along.3)
    (above (n + 1) es along.1 along.4) (along_rises (n + 1) es along.1 along.4))

-- the first report at or after a place
not_before : (x y : Report) (xs ys : List Report) → Every (λ r. x.place ≤ r.place) xs → reports_at y.place (x ∷ xs) ≡ reports_at y.place (y ∷ ys) → x.place ≤ y.place
not_before x y xs ys rises e = dite (dec_le x.place y.place) (λ le. le)
    (λ later.
    let lt : y.place < x.place = lt_of_not-le later in
    let none : reports_at y.place (x ∷ xs) ≡ [] = none_at y.place (x ∷ xs)
    ((λ is. omega arith), every_map (λ r. x.place ≤ r.place) (λ r. r.place ≢ y.place) (λ r le is. omega arith) xs rises) in
    let both : [] ≡ y ∷ reports_at y.place ys = sym none ∙ (e ∙ at_self y ys) in
    absurd (cc))

one_order : (xs ys : List Report) → Rises xs → Rises ys → ((p : ℕ) → reports_at p xs ≡ reports_at p ys) → xs ≡ ys
one_order [] [] a b e = refl
one_order [] (y ∷ ys) a b e = absurd (let both : [] ≡ y ∷ reports_at y.place ys = e y.place ∙ at_self y ys in cc)
one_order (x ∷ xs) [] a b e = absurd (let both : x ∷ reports_at x.place xs ≡ [] = sym (at_self x xs) ∙ e x.place in cc)
one_order (x ∷ xs) (y ∷ ys) a b e =
    let low : x.place ≤ y.place = not_before x y xs ys a.0 (e y.place) in
    let high : y.place ≤ x.place = not_before y x ys xs b.0 (sym (e x.place)) in
    let same : y.place ≡ x.place = omega arith in
    let heads : x ∷ reports_at x.place xs ≡ y ∷ reports_at x.place ys =
    sym (at_self x xs) ∙ (e x.place ∙ subst (λ (p : ℕ). reports_at p (y ∷ ys) ≡ y ∷ reports_at p ys) same (at_self y ys)) in
    let first : x ≡ y = cc in
    let rest : xs ≡ ys = one_order xs ys a.1 b.1 (λ p. dite (ℕ_discrete x.place p)
    (λ here. subst (λ (q : ℕ). reports_at q xs ≡ reports_at q ys) here (cc))
    (λ other. sym (at_other p x xs other) ∙ (e p ∙ at_other p y ys (λ is. other (sym same ∙ is))))) in
    cc

pub merged_is_plain : (rules : Rules) (log : Log) (results : List HartResult) (merged : List Report) → AreOfRun rules log results
    → IsByPlace (all_reports results) merged → merged ≡ (plain_result rules log.pages (events_of log.lines)).reports
merged_is_plain rules log results merged of by =
    let events = events_of log.lines in
    let along = plain_along rules [] events (first_state rules log.pages) in
    let rs : List Report = along.0 in
    let is : (plain_result rules log.pages events).reports ≡ rs = along.1 in
    let each : (k : ℕ) (r : HartResult) → get_elem? results k ≡ some r → r.reports.items ≡ reports_on (0 + k) rs
    = λ k r at. of.reports k r at ∙ (ap (reports_on k) is ∙ ap (λ (j : ℕ). reports_on j rs) (omega arith)) in
    let size : length results ≡ log.harts = of.size in
    one_order merged rs (rises_index merged by.rising) (along_rises 0 events rs along.2)
    (λ p.
    let one = one_hart log.harts 0 events rs along.2 of.harts p in
    by.order p ∙ ⊎_elim
    (λ (lt : one.0 < log.harts). some_of rs p one.0 one.1 0 results each (omega arith) (omega arith))
    (λ (none : reports_at p rs ≡ []).
    none_of rs p (length results) (subst (Every (λ r. r.hart ≡ length results)) (sym none) tt) 0 results each (inr (omega arith)) ∙ sym none)
    one.2)
    ∙ sym is

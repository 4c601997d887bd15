-- From a record of a hart to its next, what the lines of other harts leave.
use Rattle.std.proofs.Common.{◌≡◌, ◌≢◌, ◌==◌, ℕ, zero, suc, ◌+◌, ◌-◌, ◌<◌, ◌≤◌, List, [], ◌∷◌, ◌++◌, Bool, true, false, length, take, cond, Option, Some, None, refl, sym, ap, ◌∙◌, subst, arith, add-one, eq-eqb, lt_of_not-le, if◌then◌else◌}
use mathlib.Core.Option.{some}
use mathlib.Core.Logic.{dite}
use native.Mathlib.Decide.{dec_le}
use lib.ListN.{get_elem?}
use Rattle.std.proofs.lemmas.List.Elements.{filter-append}
use Rattle.pl_event.specs.declared.event.Event.{Event}
use Rattle.pl_event.specs.declared.event.Kind.{Kind}
use Rattle.pl_event.specs.declared.log.Line.{Line}
use Rattle.pl_event.specs.declared.log.Record.{Record}
use Rattle.pl_event.specs.declared.log.Record.TheVariants as entry
use Rattle.pl_event.specs.Feeds.{fed_at, place_at, event_number_at}
use Rattle.pl_event.specs.Numbers.{hart_of, events_of, events_on}
use Rattle.pl_event.specs.Records.{line_number, record_of, records_before, IsRecord}
use Rattle.pl_event.proofs.Before.{with_event, one_more, on_own}
use Rattle.pl_event.proofs.MappedPages.{line_at}
use Rattle.pl_event.proofs.Places.{line_number_next, line_number_of, line_number_zero, line_number_after}
use Rattle.pl_event.proofs.Sources.{at_position}
use Rattle.lifeguard.specs.declared.report.EventPlace.{EventPlace}
use Rattle.lifeguard.specs.declared.report.Report.{Report}
use Rattle.lifeguard.specs.declared.report.ReportKind.{ReportKind}
use Rattle.lifeguard.specs.declared.report.ReportKind.TheVariants as report
use Rattle.lifeguard.specs.Plain.{bad_sent, bad_touch, is_taint, marked_register, masks_after, misdeed, misdeed_report, misdeeds, place_after, register_report, reported, reports_of, rule}
use Rattle.lifeguard.specs.Ranges.{reports_on}
use Rattle.lifeguard.specs.Rules.{Rules}
use Rattle.lifeguard.specs.State.{State}
use Rattle.lifeguard.proofs.OtherHarts.{other_masks, other_reports}
use Rattle.worker_laws.specs.Runs.{Moment, Run, IsRun, IsKind, before, kind_in, kind_of, masks_before, reports_before, size, state_after}

-- ---- whose reports they are

abbrev AllOn : ℕ → List Report → Type 0
AllOn h [] = Unit {0}
AllOn h (r ∷ rs) = (r.hart ≡ h) × AllOn h rs

both_on : (h : ℕ) (xs ys : List Report) → AllOn h xs → AllOn h ys → AllOn h (xs ++ ys)
both_on h [] ys a b = b
both_on h (x ∷ xs) ys a b = (a.0, both_on h xs ys a.1 b)

own_stay : (h : ℕ) (rs : List Report) → AllOn h rs → reports_on h rs ≡ rs
own_stay h [] e = refl
own_stay h (r ∷ rs) e = ap (λ (b : Bool). cond b (r ∷ reports_on h rs) (reports_on h rs)) (eq-eqb r.hart h e.0) ∙ ap (λ (z : List Report). r ∷ z) (own_stay h rs e.1)

reported_on : (at : EventPlace) (k : ReportKind) (o : Option ℕ) → AllOn at.hart (reported at k o)
reported_on at k None = tt
reported_on at k (Some addr) = (refl, tt)

misdeed_on : (at : EventPlace) (b : Bool) (o : Option (ReportKind × ℕ)) → AllOn at.hart (if b then [] else misdeed_report at o)
misdeed_on at true o = tt
misdeed_on at false None = tt
misdeed_on at false (Some d) = (refl, tt)

all_on : (rules : Rules) (at : EventPlace) (k : Kind) (s : State) → AllOn at.hart (reports_of rules at k s)
all_on rules at k s = joined at.hart (reported at (register_report k) (marked_register rules s.masks at.hart k)) (reported at report.Access (bad_touch rules s.bytes k)) (reported at report.Undef (bad_sent rules s.bytes k)) (misdeeds rules at k)
    (reported_on at (register_report k) (marked_register rules s.masks at.hart k)) (reported_on at report.Access (bad_touch rules s.bytes k)) (reported_on at report.Undef (bad_sent rules s.bytes k)) (misdeed_on at (is_taint rules.name) (misdeed k))
  where
    joined : (h : ℕ) (a b c d : List Report) → AllOn h a → AllOn h b → AllOn h c → AllOn h d → AllOn h (a ++ b ++ c ++ d)
    joined h a b c d x y z w = both_on h (a ++ b ++ c) d (both_on h (a ++ b) c (both_on h a b x y) z) w

same_kind : (k l : Kind) → Some k ≡ Some l → k ≡ l
same_kind k l e = cc

module _ (p : Run) (run : IsRun p) (h : ℕ) where
  abbrev g : List Line
  g = p.plan.log.lines

  pub later_line : (m k : ℕ) → m ≤ k → line_number g h m ≤ line_number g h k
  later_line m k le = go (k - m) k (omega arith)
    where
      go : (d k : ℕ) → k ≡ m + d → line_number g h m ≤ line_number g h k
      go zero k e = let f : m ≡ k = omega arith in subst (λ (z : ℕ). line_number g h m ≤ line_number g h z) f (omega arith)
      go (suc d) k e =
          let a : line_number g h m ≤ line_number g h (m + d) = go d (m + d) refl in
          let b : line_number g h (m + d) < line_number g h (m + d + 1) = line_number_next g h (m + d) in
          let f : m + d + 1 ≡ k = omega arith in
          subst (λ (z : ℕ). line_number g h m ≤ line_number g h z) f (omega arith)

  none_between : (m x : ℕ) (l : Line) → get_elem? g x ≡ some l → line_number g h m ≤ x → x + 1 < line_number g h (m + 1) → hart_of l.what ≢ h
  none_between m x l at low high own =
      let s : line_number g h (records_before h g x + 1) ≡ x + 1 = line_number_of g x h (records_before h g x + 1) l (record { at = at; hart = own; number = refl }) in
      dite (dec_le (records_before h g x + 1) m)
      (λ le. (let u : line_number g h (records_before h g x + 1) ≤ line_number g h m = later_line (records_before h g x + 1) m le in omega arith))
      (λ n. (let u : line_number g h (m + 1) ≤ line_number g h (records_before h g x + 1) = later_line (m + 1) (records_before h g x + 1) (let l : m < records_before h g x + 1 = lt_of_not-le n in omega arith) in omega arith))

  module _ {X : Type 0} (F : Moment → X) (keeps : (i : ℕ) (l : Line) → get_elem? g i ≡ some l → hart_of l.what ≢ h → F (p.moment (i + 1)) ≡ F (p.moment i)) where
    one_line : (m x : ℕ) → line_number g h m ≤ x → x + 1 < line_number g h (m + 1) → F (p.moment (x + 1)) ≡ F (p.moment x)
    one_line m x low high = dite (dec_le (length g) x)
        (λ le. ap F (run.ended x le))
        (λ n. (let t = line_at g x (lt_of_not-le n) in keeps x t.0 t.1 (none_between m x t.0 t.1 low high)))

    up_to : (m d : ℕ) → line_number g h m + d < line_number g h (m + 1) → F (p.moment (line_number g h m + d)) ≡ F (p.moment (line_number g h m))
    up_to m zero lt = ap (λ (z : ℕ). F (p.moment z)) (omega arith)
    up_to m (suc d) lt =
        let e : line_number g h m + suc d ≡ line_number g h m + d + 1 = omega arith in
        ap (λ (z : ℕ). F (p.moment z)) e ∙ (one_line m (line_number g h m + d) (omega arith) (omega arith) ∙ up_to m d (omega arith))

    -- what they leave is before the next record as it is after this one
    own_alone : (m : ℕ) → F (before p h (m + 1)) ≡ F (p.moment (line_number g h m))
    own_alone m =
        let n : line_number g h m < line_number g h (m + 1) = line_number_next g h m in
        let e : line_number g h (m + 1) - 1 ≡ line_number g h m + (line_number g h (m + 1) - 1 - line_number g h m) = omega arith in
        ap (λ (z : ℕ). F (p.moment z)) e ∙ up_to m (line_number g h (m + 1) - 1 - line_number g h m) (omega arith)

  at_end : (i : ℕ) → length g ≤ i → p.moment i ≡ p.moment (length g)
  at_end zero le = let e : 0 ≡ length g = omega arith in ap p.moment e
  at_end (suc i) le = dite (dec_le (length g) i)
      (λ more. ap p.moment (sym (add-one i)) ∙ (run.ended i more ∙ at_end i more))
      (λ n. let l : i < length g = lt_of_not-le n in let e : suc i ≡ length g = omega arith in ap p.moment e)

  -- after the last record
  pub after_all : before p h (size p h + 1) ≡ p.moment (length g)
  after_all = at_end (line_number g h (size p h + 1) - 1) (let b : length g < line_number g h (size p h + 1) = line_number_after g (length g) h (size p h + 1) (omega arith) (omega arith) in omega arith)

  -- ---- masks

  masks_left : (r i : ℕ) (s : State) (x : Record) → hart_of x ≢ h → (state_after p.rules g i s x).masks h r ≡ s.masks h r
  masks_left r i s (entry.Event e) apart = other_masks p.rules (place_after (events_of (take i g)) e) e.kind s h r (λ z. apart (sym z))
  masks_left r i s (entry.Notice hart point) apart = refl

  masks_between : (m r : ℕ) → masks_before p h (m + 1) r ≡ (p.moment (line_number g h m)).state.masks h r
  masks_between m r = own_alone (λ (z : Moment). z.state.masks h r)
      (λ i l is apart. ap (λ (z : State). z.masks h r) (run.state i l is) ∙ masks_left r i (p.moment i).state l.what apart) m

  -- ---- reports

  reports_left : (i : ℕ) (s : State) (x : Record) → hart_of x ≢ h → reports_on h (state_after p.rules g i s x).reports ≡ reports_on h s.reports
  reports_left i s (entry.Event e) apart = other_reports p.rules (place_after (events_of (take i g)) e) e.kind s h (λ z. apart (sym z))
  reports_left i s (entry.Notice hart point) apart = refl

  reports_between : (m : ℕ) → reports_before p h (m + 1) ≡ reports_on h (p.moment (line_number g h m)).state.reports
  reports_between m = own_alone (λ (z : Moment). reports_on h z.state.reports)
      (λ i l is apart. ap (λ (z : State). reports_on h z.reports) (run.state i l is) ∙ reports_left i (p.moment i).state l.what apart) m

  -- ---- at first

  pub first_masks : (r : ℕ) → masks_before p h 1 r ≡ 0
  first_masks r = masks_between 0 r ∙ (ap (λ (z : ℕ). (p.moment z).state.masks h r) (line_number_zero g h) ∙ ap (λ (z : State). z.masks h r) run.first)

  pub first_reports : reports_before p h 1 ≡ []
  first_reports = reports_between 0 ∙ (ap (λ (z : ℕ). reports_on h (p.moment z).state.reports) (line_number_zero g h) ∙ ap (λ (z : State). reports_on h z.reports) run.first)

  -- ---- after a record

  module _ (i m : ℕ) (l : Line) (is : IsRecord g i h m l) where
    pub before_is : before p h m ≡ p.moment i
    before_is = let s : line_number g h m ≡ i + 1 = line_number_of g i h m l is in ap p.moment (omega arith)

    masks_next : (r : ℕ) → masks_before p h (m + 1) r ≡ (state_after p.rules g i (p.moment i).state l.what).masks h r
    masks_next r = masks_between m r ∙ (ap (λ (z : ℕ). (p.moment z).state.masks h r) (line_number_of g i h m l is) ∙ ap (λ (z : State). z.masks h r) (run.state i l is.at))

    masks_by : (r : ℕ) (k : Kind) (s : State) (x : Record) → hart_of x ≡ h → kind_of x ≡ Some k → (state_after p.rules g i s x).masks h r ≡ masks_after p.rules h k s.bytes s.masks h r
    unfolding rule
    masks_by r k s (entry.Event e) own kind = λ d. masks_after p.rules (own d) (same_kind e.kind k kind d) s.bytes s.masks h r
    masks_by r k s (entry.Notice hart point) own kind = absurd (let t : None ≡ Some k = kind in cc)

    masks_told : (r : ℕ) (s : State) (x : Record) → kind_of x ≡ None → (state_after p.rules g i s x).masks h r ≡ s.masks h r
    masks_told r s (entry.Event e) kind = absurd (let t : Some e.kind ≡ None = kind in cc)
    masks_told r s (entry.Notice hart point) kind = refl

    -- a notice leaves the masks
    pub notice_masks : kind_of l.what ≡ None → (r : ℕ) → masks_before p h (m + 1) r ≡ masks_before p h m r
    notice_masks none r = masks_next r ∙ (masks_told r (p.moment i).state l.what none ∙ ap (λ (z : Moment). z.state.masks h r) (sym before_is))

    reports_next : reports_before p h (m + 1) ≡ reports_on h (state_after p.rules g i (p.moment i).state l.what).reports
    reports_next = reports_between m ∙ (ap (λ (z : ℕ). reports_on h (p.moment z).state.reports) (line_number_of g i h m l is) ∙ ap (λ (z : State). reports_on h z.reports) (run.state i l is.at))

    -- and the reports
    pub notice_reports : kind_of l.what ≡ None → reports_before p h (m + 1) ≡ reports_before p h m
    notice_reports none = reports_next ∙ (by l.what none ∙ ap (λ (z : Moment). reports_on h z.state.reports) (sym before_is))
      where
        by : (x : Record) → kind_of x ≡ None → reports_on h (state_after p.rules g i (p.moment i).state x).reports ≡ reports_on h (p.moment i).state.reports
        by (entry.Event e) none = absurd (let t : Some e.kind ≡ None = none in cc)
        by (entry.Notice hart point) none = refl

    module _ (e : Event) (what : l.what ≡ entry.Event e) where
      own : e.hart ≡ h
      own = sym (ap hart_of what) ∙ is.hart

      -- the event's place, as it is fed
      place_is : place_after (events_of (take i g)) e ≡ record { place = (fed_at g i l).place; hart = h; number = (fed_at g i l).event_number }
      place_is = λ d. record { place = places d; hart = own d; number = numbers d }
        where
          places : length (events_of (take i g)) + 1 ≡ place_at g i l.what
          places = sym (one_more (events_of (take i g)) e) ∙ (ap (λ (z : List Event). length z) (sym (with_event g i l e is.at what)) ∙ ap (place_at g i) (sym what))

          numbers : events_on e.hart (events_of (take i g)) + 1 ≡ event_number_at g i l.what
          numbers = sym (on_own e.hart (events_of (take i g)) e refl) ∙ (ap (λ (z : List Event). events_on e.hart z) (sym (with_event g i l e is.at what)) ∙ ap (event_number_at g i) (sym what))

      told : (at : EventPlace) → at.hart ≡ h → reports_on h (rule p.rules at e.kind (p.moment i).state).reports ≡ reports_on h (p.moment i).state.reports ++ reports_of p.rules at e.kind (p.moment i).state
      unfolding rule
      told at mine = filter-append (λ (report : Report). report.hart == h) (p.moment i).state.reports (reports_of p.rules at e.kind (p.moment i).state)
          ∙ ap (λ (z : List Report). reports_on h (p.moment i).state.reports ++ z) (own_stay h (reports_of p.rules at e.kind (p.moment i).state) (subst (λ (z : ℕ). AllOn z (reports_of p.rules at e.kind (p.moment i).state)) mine (all_on p.rules at e.kind (p.moment i).state)))

      -- the record's reports follow those before it
      pub event_reports : reports_before p h (m + 1) ≡ reports_before p h m ++ reports_of p.rules (record { place = (fed_at g i l).place; hart = h; number = (fed_at g i l).event_number }) e.kind (before p h m).state
      event_reports =
          reports_next ∙ (ap (λ (z : Record). reports_on h (state_after p.rules g i (p.moment i).state z).reports) what
          ∙ (told (place_after (events_of (take i g)) e) own
          ∙ (ap (λ (z : EventPlace). reports_on h (p.moment i).state.reports ++ reports_of p.rules z e.kind (p.moment i).state) place_is
          ∙ ap (λ (z : Moment). reports_on h z.state.reports ++ reports_of p.rules (record { place = (fed_at g i l).place; hart = h; number = (fed_at g i l).event_number }) e.kind z.state) (sym before_is))))

  pub a_line : (m : ℕ) (k : Kind) → IsKind p h m k → (l : Line) × (record_of g h m ≡ Some l)
  a_line m k = by (record_of g h m) refl
    where
      by : (o : Option Line) → record_of g h m ≡ o → kind_in o ≡ Some k → (l : Line) × (record_of g h m ≡ Some l)
      by None e s = absurd (let t : None ≡ Some k = s in cc)
      by (Some l) e s = (l, e)

  -- an event changes the masks by its kind
  pub event_masks : (m : ℕ) (k : Kind) (r : ℕ) → IsKind p h m k → masks_before p h (m + 1) r ≡ masks_after p.rules h k (before p h m).state.bytes (before p h m).state.masks h r
  event_masks m k r kind =
      let t = a_line m k kind in
      let s = at_position g h m t.0 t.1 in
      masks_next s.0 m t.0 s.1 r ∙ (masks_by s.0 m t.0 s.1 r k (p.moment s.0).state t.0.what s.1.hart (sym (ap kind_in t.1) ∙ kind)
      ∙ ap (λ (z : Moment). masks_after p.rules h k z.state.bytes z.state.masks h r) (sym (before_is s.0 m t.0 s.1)))

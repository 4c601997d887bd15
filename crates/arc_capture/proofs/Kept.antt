-- The recorded log of some events is one, is ordered, and has the arcs that are not implied.
use Rattle.std.proofs.Common.{◌≡◌, ◌↔◌, ℕ, ◌<◌, inl, inr, ⊎_elim, Bool, true, false, IsTrue, List, refl, sym, ◌∙◌, subst}
use Rattle.std.specs.Bool.{MatchBool}
use Rattle.pl_event.specs.declared.event.Event.{Event}
use Rattle.pl_event.specs.declared.log.Line.{Line}
use Rattle.pl_event.specs.Alerts.{is_alert_kind}
use Rattle.pl_event.specs.Candidates.{IsCandidate, IsImpliedArc}
use Rattle.pl_event.specs.Conflicts.{AreOrdered, HasNotice, IsPair, MeetByAlert}
use Rattle.pl_event.specs.Edges.{IsArc, IsFlow}
use Rattle.pl_event.specs.Records.{IsEvent}
use Rattle.pl_event.specs.Runs.{IsAlert}
use Rattle.conflict_alerts.specs.Placing.{AreNoticed}
use Rattle.arc_reduce.specs.Reduction.{records_in, IsReduced, IsSpare}
use Rattle.arc_reduce.specs.Drawn.{NameAlerts}
use Rattle.arc_reduce.proofs.Drawing.{least, ordered_accesses}
use Rattle.arc_reduce.proofs.Matching.{notice_same, event_same}
use Rattle.arc_capture.specs.Recorded.{IsFull, IsKept}
use Rattle.arc_capture.proofs.Flow.{full_flow}
use Rattle.arc_capture.proofs.Same.{one_log, drawn_on}

-- what is kept of a full log is one
reduced_on : (full g f : List Line) → IsReduced g full → IsReduced f full → (u n h m : ℕ) → IsArc g u n h m → IsArc f u n h m
reduced_on full g f is other u n h m a =
    let there : IsArc full u n h m = is.only u n h m a in
    ⊎_elim
    (λ (t : IsArc f u n h m × (IsSpare full u n h m → ⊥)). t.0)
    (λ (t : (IsArc f u n h m → ⊥) × IsSpare full u n h m). absurd (⊎_elim
    (λ (s : IsArc g u n h m × (IsSpare full u n h m → ⊥)). s.1 t.1)
    (λ (s : (IsArc g u n h m → ⊥) × IsSpare full u n h m). s.0 a)
    (is.arcs u n h m there)))
    (other.arcs u n h m there)

one_full : (size : ℕ) (base g f : List Line) → IsFull size base g → IsFull size base f → g ≡ f
one_full size base g f x y =
    let same : records_in g ≡ records_in f = x.records ∙ sym y.records in
    one_log g f same x.eight y.eight (drawn_on size g f same x.drawn y.drawn) (drawn_on size f g (sym same) y.drawn x.drawn)

pub one_kept : (size : ℕ) (base g f : List Line) → IsKept size base g → IsKept size base f → g ≡ f
one_kept size base g f x y =
    let full : x.full ≡ y.full = one_full size base x.full y.full x.whole y.whole in
    let is : IsReduced g y.full = subst (IsReduced g) full x.reduced in
    one_log g f (is.records ∙ sym y.reduced.records) x.eight y.eight (reduced_on y.full g f is y.reduced) (reduced_on y.full f g y.reduced is)

module _ (size harts : ℕ) (base lines : List Line) (noticed : AreNoticed harts base) (kept : IsKept size base lines) where
  pub same : records_in lines ≡ records_in base
  same = kept.reduced.records ∙ kept.whole.records

  pub flow : IsFlow harts kept.full
  flow = full_flow size harts base kept.full kept.whole.records kept.whole.drawn noticed.flow

  alerts : NameAlerts kept.full
  alerts h k u n notice =
      let a : IsAlert base u n = noticed.named h k u n (notice_same kept.full base kept.whole.records h k u n notice) in
      (a.0, a.1, event_same base kept.full (sym kept.whole.records) a.0 n a.1 a.2, a.3, a.4)

  pub least_kept : (u n h m : ℕ) → IsArc lines u n h m ↔ (IsCandidate size lines u n h m × (IsImpliedArc size lines u n h m → ⊥))
  least_kept = least size harts lines kept.full flow kept.whole.drawn alerts kept.reduced

  -- each other hart has a notice of an alert event
  has_notice : (i n : ℕ) (a : Event) → IsEvent lines i n a → IsTrue (is_alert_kind a.kind) → (h : ℕ) → h < harts → (h ≡ a.hart → ⊥) → HasNotice lines h a.hart n
  has_notice i n a is alert h low other =
      let t = noticed.told i n a (event_same lines base same i n a is) alert h low other in
      (t.0, notice_same base lines (sym same) h t.0 a.hart n t.1)

  inside : (i n : ℕ) (a : Event) → IsEvent lines i n a → a.hart < harts
  inside i n a is = let t = event_same lines base same i n a is in noticed.flow.within i a.hart n t.0 t.1

  pub ordered_kept : (upto : ℕ) → AreOrdered size lines upto
  ordered_kept upto = record {
    accesses = λ i j a n b m low pair share. ordered_accesses size harts lines kept.full flow kept.whole.drawn kept.reduced i j a n b m pair share;
    alerts = λ i j a n b m low pair meet. told i j a n b m pair meet (is_alert_kind a.kind) refl;
  }
    where
      told : (i j : ℕ) (a : Event) (n : ℕ) (b : Event) (m : ℕ) → IsPair lines i j a n b m → MeetByAlert a.kind b.kind → (x : Bool) → is_alert_kind a.kind ≡ x
          → MatchBool x (HasNotice lines b.hart a.hart n) (HasNotice lines a.hart b.hart m)
      told i j a n b m pair meet true is = has_notice i n a pair.first is b.hart (inside j m b pair.second) (λ e. pair.apart (sym e))
      told i j a n b m pair (inl t) false is = absurd (let e : false ≡ true = sym is ∙ t.0 in cc)
      told i j a n b m pair (inr t) false is = has_notice j m b pair.second t.1 a.hart (inside i n a pair.first) pair.apart

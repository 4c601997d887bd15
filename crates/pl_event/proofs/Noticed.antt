-- A pair that a notice orders has a path.
use Rattle.std.proofs.Common.{◌≡◌, ℕ, ◌+◌, ◌-◌, ◌<◌, ◌≤◌, Bool, true, false, List, length, refl, sym, subst, inl, inr, arith, lt_of_not-le}
use Rattle.std.specs.Bool.{MatchBool}
use mathlib.Core.Logic.{dite}
use native.Mathlib.Decide.{ℕ_discrete, dec_le}
use Rattle.pl_event.specs.declared.event.Event.{Event}
use Rattle.pl_event.specs.declared.log.Line.{Line}
use Rattle.pl_event.specs.Alerts.{is_alert_kind}
use Rattle.pl_event.specs.Conflicts.{AreOrdered, HasNotice, IsNoticed, IsPair, MeetByAlert}
use Rattle.pl_event.specs.Edges.{Into, IsFlow, IsNotice}
use Rattle.pl_event.specs.Graph.{Path, one, more}
use Rattle.pl_event.specs.Records.{IsRecord, records_before}
use Rattle.pl_event.proofs.Paths.{chain, joined}
use Rattle.pl_event.proofs.Places.{before_up, before_own, record_at, inside}

-- along a hart, from an earlier record to a later one
pub own_path : (G : ℕ → ℕ → ℕ → ℕ → Type 0) (h n m : ℕ) → n < m → Path G h n h m
own_path G h n m l = let d : n + 1 + (m - (n + 1)) ≡ m = omega arith in subst (λ (z : ℕ). Path G h n h z) d (chain G h n (m - (n + 1)))

-- along a hart, from where a path ends
pub path_on : (G : ℕ → ℕ → ℕ → ℕ → Type 0) (u n h k m : ℕ) → k ≤ m → Path G u n h k → Path G u n h m
path_on G u n h k m le p = dite (ℕ_discrete k m)
    (λ e. subst (λ (z : ℕ). Path G u n h z) e p)
    (λ ne. joined G u n h k h m p (own_path G h k m (omega arith)))

module _ (harts : ℕ) (g : List Line) (flow : IsFlow harts g) (u n i h m j : ℕ) (l k : Line) (mine : IsRecord g i u n l) (theirs : IsRecord g j h m k) (told : HasNotice g u h m) where
  abbrev at : ℕ
  at = told.0

  abbrev notice : IsNotice g u at h m
  notice = told.1

  -- how many records of hart u there are up to the own one
  up_to_own : records_before u g (i + 1) ≡ n
  up_to_own = let a : records_before u g (i + 1) ≡ records_before u g i + 1 = before_own g i u l mine.at mine.hart in let b : records_before u g i + 1 ≡ n = mine.number in omega arith

  up_to_alert : records_before h g (j + 1) ≡ m
  up_to_alert = let a : records_before h g (j + 1) ≡ records_before h g j + 1 = before_own g j h k theirs.at theirs.hart in let b : records_before h g j + 1 ≡ m = theirs.number in omega arith

  -- a record before an alert event is not after its notice
  notice_late : i < j → n ≤ at
  notice_late less = dite (dec_le n at) (λ le. le) (λ nl.
      let past : at < n = lt_of_not-le nl in
      let c : records_before u g (i + 1) ≡ n = up_to_own in
      let next = record_at g (i + 1) u (at + 1) (omega arith) (omega arith) in
      let low : next.0 < i + 1 = next.2 in
      let come : m ≤ records_before h g next.0 = flow.closed next.0 u at next.1 next.3 h m notice in
      let up : records_before h g next.0 ≤ records_before h g j = before_up g next.0 j h (omega arith) in
      let b : records_before h g j + 1 ≡ m = theirs.number in
      absurd (omega arith))

  pub into_alert : i < j → Path (Into g) u n h m
  into_alert less = dite (ℕ_discrete n at)
      (λ e. subst (λ (z : ℕ). Path (Into g) u z h m) (sym e) (one (inr (inr (inl notice)))))
      (λ ne. let le : n ≤ at = notice_late less in more (own_path (Into g) u n at (omega arith)) (inr (inr (inl notice))))

  -- a record after an alert event is after its notice
  notice_early : j < i → at < n
  notice_early less = dite (dec_le n at) (λ le.
      let q : ℕ = notice.0 in
      let there : IsRecord g q u at notice.1 = notice.2 in
      let few : records_before h g q < m = (flow.notices q u at notice.1 there h m notice.3).2 in
      let here : records_before u g q + 1 ≡ at = there.number in
      let own : records_before u g i + 1 ≡ n = mine.number in
      let far : i ≤ q = dite (dec_le i q) (λ z. z) (λ nz.
      let past : q < i = lt_of_not-le nz in
      let more_one : records_before u g (q + 1) ≡ records_before u g q + 1 = before_own g q u notice.1 there.at there.hart in
      let up : records_before u g (q + 1) ≤ records_before u g i = before_up g (q + 1) i u (omega arith) in
      absurd (omega arith)) in
      let up : records_before h g (j + 1) ≤ records_before h g q = before_up g (j + 1) q h (omega arith) in
      let c : records_before h g (j + 1) ≡ m = up_to_alert in
      absurd (omega arith)) (λ nl. lt_of_not-le nl)

  pub from_alert : j < i → Path (Into g) h m u n
  from_alert less =
      let l : at < n = notice_early less in
      let c : records_before u g (i + 1) ≡ n = up_to_own in
      let next = record_at g (i + 1) u (at + 1) (omega arith) (omega arith) in
      path_on (Into g) h m u (at + 1) n (omega arith) (one (inr (inr (inr (next.0, next.1, at, next.3, refl, notice)))))

module _ (harts size : ℕ) (g : List Line) (flow : IsFlow harts g) where
  pub noticed_path : (i j : ℕ) (a : Event) (n : ℕ) (b : Event) (m : ℕ) → IsPair g i j a n b m → IsNoticed g a n b m → Path (Into g) a.hart n b.hart m
  noticed_path i j a n b m pair = by (is_alert_kind a.kind)
    where
      by : (alert : Bool) → MatchBool alert (HasNotice g b.hart a.hart n) (HasNotice g a.hart b.hart m) → Path (Into g) a.hart n b.hart m
      by true told = from_alert harts g flow b.hart m j a.hart n i pair.second.0 pair.first.0 pair.second.1 pair.first.1 told pair.before
      by false told = into_alert harts g flow a.hart n i b.hart m j pair.first.0 pair.second.0 pair.first.1 pair.second.1 told pair.before

  -- in an ordered log two conflicting events have a path
  pub alert_path : AreOrdered size g (length g) → (i j : ℕ) (a : Event) (n : ℕ) (b : Event) (m : ℕ) → IsPair g i j a n b m → MeetByAlert a.kind b.kind → Path (Into g) a.hart n b.hart m
  alert_path ordered i j a n b m pair meet = noticed_path i j a n b m pair (ordered.alerts i j a n b m (inside g j pair.second.0 pair.second.1.at) pair meet)

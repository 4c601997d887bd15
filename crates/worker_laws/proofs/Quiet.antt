-- A hart that is told of nothing between two of its records has no alert event of another hart between them.
use Rattle.std.proofs.Common.{◌≡◌, ◌≢◌, ℕ, ◌+◌, ◌<◌, ◌≤◌, Bool, true, false, List, length, ◌∙◌, subst, inl, arith, lt_of_not-le}
use Rattle.std.specs.Prelude.{IsTrue}
use Rattle.std.specs.Bool.{MatchBool}
use mathlib.Core.Logic.{dite}
use native.Mathlib.Decide.{dec_le}
use Rattle.pl_event.specs.declared.event.Event.{Event}
use Rattle.pl_event.specs.declared.log.Line.{Line}
use Rattle.pl_event.specs.Alerts.{is_alert_kind}
use Rattle.pl_event.specs.Conflicts.{AreOrdered, IsConcerned, HasNotice, IsPair}
use Rattle.pl_event.specs.Edges.{IsFlow, IsNotice}
use Rattle.pl_event.specs.Records.{IsEvent, IsRecord, records_before}
use Rattle.pl_event.proofs.Places.{before_up, before_own, record_at, inside}

chosen : (A B : Type 0) (b : Bool) → IsTrue b → MatchBool b A B → A
chosen A B true t m = m
chosen A B false t m = absurd (let f : false ≡ true = t in cc)

module _ (harts size : ℕ) (lines : List Line) (flow : IsFlow harts lines) (ordered : AreOrdered size lines (length lines)) (i j p h m n k : ℕ) (line : Line) (b e : Event)
    (is : IsRecord lines i h m line) (later : IsEvent lines j n b) (own : b.hart ≡ h) (concerned : IsConcerned b.kind) (after : i < p) (before : p < j)
    (quiet : (x u y : ℕ) → m ≤ x → x < n → IsNotice lines h x u y → ⊥) (there : IsEvent lines p k e) (other : e.hart ≢ h) (alert : IsTrue (is_alert_kind e.kind)) where
  abbrev u : ℕ
  u = e.hart

  pair : IsPair lines p j e k b n
  pair = record { before = before; first = there; second = later; apart = λ s. other (s ∙ own) }

  told : HasNotice lines h u k
  told = subst (λ (z : ℕ). HasNotice lines z u k) own (chosen (HasNotice lines b.hart u k) (HasNotice lines u b.hart n) (is_alert_kind e.kind) alert
      (ordered.alerts p j e k b n (inside lines j later.0 later.1.at) pair (inl (alert, concerned))))

  number_at : records_before u lines p + 1 ≡ k
  number_at = there.1.number

  impossible : (x q : ℕ) (l : Line) → IsRecord lines q h x l → records_before u lines q < k → IsNotice lines h x u k → ⊥
  impossible x q l here low notice = dite (dec_le m x)
      (λ le. quiet x u k le (x_low) notice)
      (λ nl. let less : x < m = lt_of_not-le nl in too_late less)
    where
      -- the notice comes before the alert event
      q_low : q ≤ p
      q_low = dite (dec_le q p) (λ l. l) (λ nl.
          let past : p < q = lt_of_not-le nl in
          let up : records_before u lines (p + 1) ≤ records_before u lines q = before_up lines (p + 1) q u (omega arith) in
          let more : records_before u lines (p + 1) ≡ records_before u lines p + 1 = before_own lines p u there.0 there.1.at there.1.hart in
          absurd (let a : records_before u lines p + 1 ≡ k = number_at in omega arith))

      x_low : x < n
      x_low =
          let up : records_before h lines (q + 1) ≤ records_before h lines j = before_up lines (q + 1) j h (let l : q ≤ p = q_low in omega arith) in
          let more : records_before h lines (q + 1) ≡ records_before h lines q + 1 = before_own lines q h l here.at here.hart in
          let a : records_before h lines q + 1 ≡ x = here.number in
          let c : records_before h lines j + 1 ≡ n = subst (λ (z : ℕ). records_before z lines j + 1 ≡ n) own later.1.number in
          omega arith

      -- the record after the notice would come after the alert event
      too_late : x < m → ⊥
      too_late less =
          let at : records_before h lines i + 1 ≡ m = is.number in
          let mine : records_before h lines (i + 1) ≡ records_before h lines i + 1 = before_own lines i h line is.at is.hart in
          let next = record_at lines (i + 1) h (x + 1) (omega arith) (omega arith) in
          let low : next.0 < i + 1 = next.2 in
          let come : k ≤ records_before u lines next.0 = flow.closed next.0 h x next.1 next.3 u k notice in
          let up : records_before u lines next.0 ≤ records_before u lines p = before_up lines next.0 p u (omega arith) in
          let a : records_before u lines p + 1 ≡ k = number_at in
          omega arith

  pub none : ⊥
  none =
      let x = told.0 in
      let notice : IsNotice lines h x u k = told.1 in
      let q = notice.0 in
      let l = notice.1 in
      let there : IsRecord lines q h x l = notice.2 in
      impossible x q l there (flow.notices q h x l there u k notice.3).2 notice

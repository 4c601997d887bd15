-- A log with one line more.
use Rattle.std.proofs.Common.{◌≡◌, ◌≢◌, ℕ, zero, suc, ◌+◌, ◌<◌, ◌≤◌, ◌⊎◌, inl, inr, List, [], ◌∷◌, ◌++◌, length, Some, refl, sym, ap, subst, ◌∙◌, arith, if◌then◌else◌, length-append}
use mathlib.Core.Option.{some, some-injective, some-ne-none}
use mathlib.Core.Logic.{dite}
use native.Mathlib.Decide.{ℕ_discrete}
use lib.ListN.{get_elem?}
use Rattle.pl_event.specs.declared.event.Event.{Event}
use Rattle.pl_event.specs.declared.log.Line.{Line}
use Rattle.pl_event.specs.declared.log.Record.TheVariants as entry
use Rattle.pl_event.specs.Edges.{IsFlow, IsNotice, arc_of, notice_of}
use Rattle.pl_event.specs.Numbers.{hart_of, is_of}
use Rattle.pl_event.specs.Records.{records_before, IsRecord, IsEvent}
use Rattle.pl_event.specs.Runs.{IsAlert}
use Rattle.pl_event.proofs.Growth.{record_on}
use Rattle.pl_event.proofs.Places.{inside, before_own, before_other, before_up}
use Rattle.conflict_alerts.specs.Placing.{count_in}

pub count_first : (g e : List Line) (h i : ℕ) → i ≤ length g → records_before h (g ++ e) i ≡ records_before h g i
count_first [] [] h i l = refl
count_first [] (x ∷ e) h zero l = refl
count_first [] (x ∷ e) h (suc i) l = absurd (omega arith)
count_first (y ∷ g) e h zero l = refl
count_first (y ∷ g) e h (suc i) l = ap (λ (z : ℕ). (if is_of h y then 1 else 0) + z) (count_first g e h i (omega arith))

at_first : (g e : List Line) (i : ℕ) → i < length g → get_elem? (g ++ e) i ≡ get_elem? g i
at_first [] e i l = absurd (omega arith)
at_first (y ∷ g) e zero l = refl
at_first (y ∷ g) e (suc i) l = at_first g e i (omega arith)

pub at_end : (g : List Line) (new : Line) → get_elem? (g ++ new ∷ []) (length g) ≡ some new
at_end [] new = refl
at_end (l ∷ g) new = at_end g new

-- a line of the longer list is one of the shorter, or the new one
pub either : (g : List Line) (new : Line) (i : ℕ) (line : Line) → get_elem? (g ++ new ∷ []) i ≡ some line → ((i < length g) × (get_elem? g i ≡ some line)) ⊎ ((i ≡ length g) × (line ≡ new))
either [] new zero line at = inr (refl, sym (some-injective new line at))
either [] new (suc i) line at = absurd (some-ne-none line (sym at))
either (y ∷ g) new zero line at = inl (omega arith, at)
either (y ∷ g) new (suc i) line at = elim (either g new i line at) [
  | inl t ↦ inl (omega (arith, t.0), t.1)
  | inr t ↦ inr (ap suc t.0, t.1)
]

-- each record of a log is counted at its end
pub number_low : (g : List Line) (i h m : ℕ) (line : Line) → IsRecord g i h m line → m ≤ count_in h g
number_low g i h m line is =
    let within : i < length g = inside g i line is.at in
    let one : records_before h g (i + 1) ≡ records_before h g i + 1 = before_own g i h line is.at is.hart in
    let up : records_before h g (i + 1) ≤ records_before h g (length g) = before_up g (i + 1) (length g) h (omega (arith, within)) in
    let number : records_before h g i + 1 ≡ m = is.number in
    omega (arith, one, up, number)

pub alert_low : (g : List Line) (u m : ℕ) → IsAlert g u m → m ≤ count_in u g
alert_low g u m a = number_low g a.0 u m a.2.0 (subst (λ (z : ℕ). IsRecord g a.0 z m a.2.0) a.3 a.2.1)

module _ (old : List Line) (new : Line) where
  abbrev longer : List Line
  longer = old ++ new ∷ []

  abbrev end : ℕ
  end = length old

  abbrev own : ℕ
  own = hart_of new.what

  same_count : (h i : ℕ) → i ≤ end → records_before h longer i ≡ records_before h old i
  same_count h i within = count_first old (new ∷ []) h i within

  counted : (u : ℕ) → count_in u longer ≡ records_before u longer (end + 1)
  counted u = ap (records_before u longer) (length-append old (new ∷ []))

  pub count_own : (u : ℕ) → own ≡ u → count_in u longer ≡ count_in u old + 1
  count_own u same = counted u ∙ (before_own longer end u new (at_end old new) same ∙ ap (λ (n : ℕ). n + 1) (same_count u end (omega arith)))

  pub count_other : (u : ℕ) → own ≢ u → count_in u longer ≡ count_in u old
  count_other u other = counted u ∙ (before_other longer end u new (at_end old new) other ∙ same_count u end (omega arith))

  pub count_up : (u : ℕ) → count_in u old ≤ count_in u longer
  count_up u = dite (ℕ_discrete own u)
      (λ e. let c : count_in u longer ≡ count_in u old + 1 = count_own u e in omega arith)
      (λ ne. let c : count_in u longer ≡ count_in u old = count_other u ne in omega arith)

  pub last_record : IsRecord longer end own (count_in own old + 1) new
  last_record = record { at = at_end old new; hart = refl; number = ap (λ (z : ℕ). z + 1) (same_count own end (omega arith)) }

  -- a record of the longer log is one of the shorter log, or the new one
  pub record_either : (i h m : ℕ) (line : Line) → IsRecord longer i h m line → ((i < end) × IsRecord old i h m line) ⊎ ((i ≡ end) × (line ≡ new) × (h ≡ own) × (count_in h old + 1 ≡ m))
  record_either i h m line is = elim (either old new i line is.at) [
    | inl t ↦ inl (t.0, record { at = t.1; hart = is.hart; number = ap (λ (z : ℕ). z + 1) (sym (same_count h i (omega (arith, t.0)))) ∙ is.number })
    | inr t ↦
        let number : records_before h longer i + 1 ≡ m = is.number in
        let here : records_before h longer i ≡ records_before h longer end = ap (records_before h longer) t.0 in
        let same : records_before h longer end ≡ records_before h old end = same_count h end (omega arith) in
        inr (t.0, t.1, sym is.hart ∙ ap (λ (l : Line). hart_of l.what) t.1, omega (arith, number, here, same))
  ]

  pub notice_either : (h k u n : ℕ) → IsNotice longer h k u n → IsNotice old h k u n ⊎ ((h ≡ own) × (count_in h old + 1 ≡ k) × (new.what ≡ notice_of own u n))
  notice_either h k u n notice = elim (record_either notice.0 h k notice.1 notice.2) [
    | inl t ↦ inl (notice.0, notice.1, t.1, notice.3)
    | inr t ↦ inr (t.2, t.3, ap (λ (l : Line). l.what) (sym t.1) ∙ notice.3 ∙ ap (λ (x : ℕ). notice_of x u n) t.2)
  ]

  pub notice_on : (h m u n : ℕ) → IsNotice old h m u n → IsNotice longer h m u n
  notice_on h m u n a = (a.0, a.1, record_on old (new ∷ []) a.0 h m a.1 a.2, a.3)

  pub alert_on : (u m : ℕ) → IsAlert old u m → IsAlert longer u m
  alert_on u m a = (a.0, a.1, (a.2.0, record_on old (new ∷ []) a.0 a.1.hart m a.2.0 a.2.1, a.2.2), a.3, a.4)

  pub event_either : (i m : ℕ) (a : Event) → IsEvent longer i m a → IsEvent old i m a ⊎ ((new.what ≡ entry.Event a) × (count_in a.hart old + 1 ≡ m))
  event_either i m a is = elim (record_either i a.hart m is.0 is.1) [
    | inl t ↦ inl (is.0, t.1, is.2)
    | inr t ↦ inr (ap (λ (l : Line). l.what) (sym t.1) ∙ is.2, t.3)
  ]

  abbrev Sources : ℕ → ℕ → ℕ → ℕ → ℕ → Type 0
  Sources harts h u n come = (u < harts) × (u ≢ h) × (1 ≤ n) × (n ≤ come)

  abbrev Names : ℕ → ℕ → ℕ → ℕ → ℕ → Type 0
  Names harts h u n come = (u < harts) × (u ≢ h) × (come < n)

  -- the line may be added: its hart has no notice whose event is to come; it has no arcs; it is a notice of a record to come
  pub record IsNextLine (harts : ℕ) : Type 0 where
    pub hart : own < harts
    pub settled : (k u n : ℕ) → IsNotice old own k u n → n ≤ count_in u old
    pub arcs : (u n : ℕ) → arc_of new u ≡ Some n → ⊥
    pub notice : (u n : ℕ) → new.what ≡ notice_of own u n → (u < harts) × (u ≢ own) × (count_in u old < n)

  module _ (harts : ℕ) (before : IsFlow harts old) (next : IsNextLine harts) where
    pub grown_flow : IsFlow harts longer
    grown_flow = record {
      within = λ i h m line is. elim (record_either i h m line is) [
        | inl t ↦ before.within i h m line t.1
        | inr t ↦ subst (λ (x : ℕ). x < harts) (sym t.2) next.hart
      ];
      arcs = λ i h m line is u n arc. elim (record_either i h m line is) [
        | inl t ↦ subst (Sources harts h u n) (sym (same_count u i (omega (arith, t.0)))) (before.arcs i h m line t.1 u n arc)
        | inr t ↦ absurd (next.arcs u n (ap (λ (l : Line). arc_of l u) (sym t.1) ∙ arc))
      ];
      notices = λ i h m line is u n told. elim (record_either i h m line is) [
        | inl t ↦ subst (Names harts h u n) (sym (same_count u i (omega (arith, t.0)))) (before.notices i h m line t.1 u n told)
        | inr t ↦
            let here : records_before u longer i ≡ count_in u old = ap (records_before u longer) t.0 ∙ same_count u end (omega arith) in
            let what : new.what ≡ notice_of own u n = ap (λ (l : Line). l.what) (sym t.1) ∙ told ∙ ap (λ (x : ℕ). notice_of x u n) t.2 in
            subst (Names harts h u n) (sym here) (subst (λ (x : ℕ). Names harts x u n (count_in u old)) (sym t.2) (next.notice u n what))
      ];
      closed = λ i h m line is u n notice. elim (record_either i h (m + 1) line is) [
        | inl t ↦ elim (notice_either h m u n notice) [
          | inl told ↦ subst (λ (r : ℕ). n ≤ r) (sym (same_count u i (omega (arith, t.0)))) (before.closed i h m line t.1 u n told)
          | inr last ↦ absurd (omega (arith, last.1, number_low old i h (m + 1) line t.1))
        ]
        | inr t ↦ elim (notice_either h m u n notice) [
          | inl told ↦
              let here : records_before u longer i ≡ count_in u old = ap (records_before u longer) t.0 ∙ same_count u end (omega arith) in
              subst (λ (r : ℕ). n ≤ r) (sym here) (next.settled m u n (subst (λ (x : ℕ). IsNotice old x m u n) t.2 told))
          | inr last ↦ absurd (omega (arith, last.1, t.3))
        ]
      ];
    }

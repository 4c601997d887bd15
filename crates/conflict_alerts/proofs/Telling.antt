-- The notices of an event, one after the other, and the event.
use Rattle.std.proofs.Common.{◌≡◌, ◌≢◌, ℕ, zero, suc, ◌+◌, ◌<◌, ◌≤◌, ◌⊎◌, inl, inr, Bool, true, false, IsTrue, ne_eqb, eq-eqb, List, [], ◌∷◌, ◌++◌, append_assoc, append-nil, length, get_or, Some, None, refl, sym, ap, subst, ◌∙◌, arith, if◌then◌else◌}
use mathlib.Core.Option.{some}
use mathlib.Core.Logic.{dite}
use native.Mathlib.Decide.{ℕ_discrete}
use lib.ListN.{get_elem?}
use Rattle.pl_event.specs.declared.event.Event.{Event}
use Rattle.pl_event.specs.declared.log.Line.{Line}
use Rattle.pl_event.specs.declared.log.Point.{Point}
use Rattle.pl_event.specs.declared.log.Record.{Record}
use Rattle.pl_event.specs.declared.log.Record.TheVariants as entry
use Rattle.pl_event.specs.Alerts.{is_alert_kind}
use Rattle.pl_event.specs.Conflicts.{HasNotice}
use Rattle.pl_event.specs.Edges.{no_arcs, notice_of, IsFlow, IsNotice}
use Rattle.pl_event.specs.Records.{IsEvent, IsRecord}
use Rattle.pl_event.specs.Runs.{IsAlert}
use Rattle.pl_event.proofs.Before.{eight}
use Rattle.conflict_alerts.specs.Placing.{notice_line, event_line, notice_to, notices_below, with_event, count_in, AreNoticed}
use Rattle.conflict_alerts.proofs.Adding.{either, count_other, last_record, notice_either, event_either, notice_on, alert_on, alert_low, IsNextLine, grown_flow}

abbrev point_of : Record → Point
point_of (entry.Event event) = record { hart = 0; number = 0 }
point_of (entry.Notice hart point) = point

no_arc : (u n : ℕ) → get_or no_arcs u None ≡ Some n → ⊥
no_arc u n is = let none : None ≡ Some n = sym (eight None u) ∙ is in cc

-- harts below `from` were told of record n of hart h, which comes next
record Telling (harts h n from : ℕ) (lines : List Line) : Type 0 where
  pub flow : IsFlow harts lines
  pub own : count_in h lines + 1 ≡ n
  pub named : (w k u m : ℕ) → IsNotice lines w k u m → IsAlert lines u m ⊎ ((w < from) × (u ≡ h) × (m ≡ n))
  pub told : (i m : ℕ) (a : Event) → IsEvent lines i m a → IsTrue (is_alert_kind a.kind) → (w : ℕ) → w < harts → w ≢ a.hart → HasNotice lines w a.hart m
  pub each : (w : ℕ) → w < from → w ≢ h → HasNotice lines w h n
  pub bare : (i : ℕ) (line : Line) → get_elem? lines i ≡ some line → line.arcs ≡ no_arcs

pub to_own : (u h n : ℕ) → u ≡ h → notice_to u h n ≡ []
to_own u h n e = ap (λ (b : Bool). if b then [] else notice_line u h n ∷ []) (eq-eqb u h e)

pub to_other : (u h n : ℕ) → (u ≡ h → ⊥) → notice_to u h n ≡ notice_line u h n ∷ []
to_other u h n ne = ap (λ (b : Bool). if b then [] else notice_line u h n ∷ []) (ne_eqb u h ne)

pub below_next : (h n u : ℕ) → notices_below h n (u + 1) ≡ notices_below h n u ++ notice_to u h n
below_next h n u = ap (notices_below h n) (let e : u + 1 ≡ suc u = omega arith in e)

-- the hart of the event gets no notice of it
pub below_own : (g : List Line) (h n u : ℕ) → u ≡ h → g ++ notices_below h n (suc u) ≡ g ++ notices_below h n u
below_own g h n u e = ap (λ (z : List Line). g ++ (notices_below h n u ++ z)) (to_own u h n e) ∙ ap (λ (z : List Line). g ++ z) (append-nil (notices_below h n u))

pub below_other : (g : List Line) (h n u : ℕ) → (u ≡ h → ⊥) → g ++ notices_below h n (suc u) ≡ (g ++ notices_below h n u) ++ notice_line u h n ∷ []
below_other g h n u ne = ap (λ (z : List Line). g ++ (notices_below h n u ++ z)) (to_other u h n ne) ∙ sym (append_assoc g (notices_below h n u) (notice_line u h n ∷ []))

module _ (harts h n : ℕ) (known : h < harts) where
  passed : (from : ℕ) (lines : List Line) → from ≡ h → Telling harts h n from lines → Telling harts h n (suc from) lines
  passed from lines same p = record {
    flow = p.flow;
    own = p.own;
    named = λ w k u m notice. elim (p.named w k u m notice) [
      | inl alert ↦ inl alert
      | inr t ↦ inr (omega (arith, t.0), t.1, t.2)
    ];
    told = p.told;
    each = λ w low other. p.each w (let l : w < suc from = low in let o : w ≡ h → ⊥ = other in omega arith) other;
    bare = p.bare;
  }

  added : (from : ℕ) (lines : List Line) → from < harts → from ≢ h → Telling harts h n from lines → Telling harts h n (suc from) (lines ++ notice_line from h n ∷ [])
  added from lines low other p =
      record {
        flow = grown_flow lines new harts p.flow next;
        own = (let c : count_in h (lines ++ new ∷ []) ≡ count_in h lines = count_other lines new h other in let o : count_in h lines + 1 ≡ n = p.own in omega arith);
        named = λ w k u m notice. elim (notice_either lines new w k u m notice) [
          | inl there ↦ elim (p.named w k u m there) [
            | inl alert ↦ inl (alert_on lines new u m alert)
            | inr t ↦ inr (omega (arith, t.0), t.1, t.2)
          ]
          | inr t ↦ inr (omega (arith, t.0), ap (λ (r : Record). hart_in r) (sym t.2), ap (λ (r : Record). number_in r) (sym t.2))
        ];
        told = λ i m a is alert w inside apart. elim (event_either lines new i m a is) [
          | inl there ↦ (let t = p.told i m a there alert w inside apart in (t.0, notice_on lines new w t.0 a.hart m t.1))
          | inr t ↦ absurd (let e : notice_of from h n ≡ entry.Event a = t.0 in cc)
        ];
        each = λ w less apart. dite (ℕ_discrete w from)
            (λ e. subst (λ (z : ℕ). HasNotice (lines ++ new ∷ []) z h n) (sym e) (count_in from lines + 1, (length lines, new, last_record lines new, refl)))
            (λ ne. let t = p.each w (let l : w < suc from = less in let o : w ≡ from → ⊥ = ne in omega arith) apart in (t.0, notice_on lines new w t.0 h n t.1));
        bare = λ i line at. elim (either lines new i line at) [
          | inl t ↦ p.bare i line t.1
          | inr t ↦ ap (λ (z : Line). z.arcs) t.1
        ];
      }
    where
      new : Line
      new = notice_line from h n

      hart_in : Record → ℕ
      hart_in r = (point_of r).hart

      number_in : Record → ℕ
      number_in r = (point_of r).number

      next : IsNextLine lines new harts
      next = record {
        hart = low;
        settled = λ k u m notice. elim (p.named from k u m notice) [
          | inl alert ↦ alert_low lines u m alert
          | inr t ↦ absurd (omega (arith, t.0))
        ];
        arcs = no_arc;
        notice = λ u m is.
            let few : count_in h lines < n = omega (arith, p.own) in
            subst (λ (x : Point). (x.hart < harts) × (x.hart ≢ from) × (count_in x.hart lines < x.number)) (ap point_of is) (known, (λ e. other (sym e)), few);
      }

  each_told : (g : List Line) (from : ℕ) → from ≤ harts → Telling harts h n 0 g → Telling harts h n from (g ++ notices_below h n from)
  each_told g zero low p = subst (Telling harts h n 0) (sym (append-nil g)) p
  each_told g (suc from) low p = dite (ℕ_discrete from h)
      (λ e. subst (Telling harts h n (suc from)) (sym (below_own g h n from e)) (passed from (g ++ notices_below h n from) e (each_told g from (omega (arith, low)) p)))
      (λ ne. subst (Telling harts h n (suc from)) (sym (below_other g h n from ne))
      (added from (g ++ notices_below h n from) (omega (arith, low)) ne (each_told g from (omega (arith, low)) p)))

module _ (harts : ℕ) (event : Event) (known : event.hart < harts) where
  abbrev new : Line
  new = event_line event

  event_in : {a b : Event} → entry.Event a ≡ entry.Event b → a ≡ b
  event_in e = cc

  -- the event ends what is placed for it
  ends : (n from : ℕ) (lines : List Line) → Telling harts event.hart n from lines
      → (is_alert_kind event.kind ≡ true → (w : ℕ) → w < harts → w ≢ event.hart → w < from)
      → ((w : ℕ) → w < from → is_alert_kind event.kind ≡ true) → AreNoticed harts (lines ++ event_line event ∷ [])
  ends n from lines p all loud =
      record {
        flow = grown_flow lines new harts p.flow next;
        named = λ w k u m notice. elim (notice_either lines new w k u m notice) [
          | inl there ↦ elim (p.named w k u m there) [
            | inl alert ↦ alert_on lines new u m alert
            | inr t ↦ (length lines, event, (new, here m (sym t.2), refl), sym t.1, loud w t.0)
          ]
          | inr t ↦ absurd (let e : entry.Event event ≡ notice_of event.hart u m = t.2 in cc)
        ];
        told = λ i m a is alert w inside apart. elim (event_either lines new i m a is) [
          | inl there ↦ (let t = p.told i m a there alert w inside apart in (t.0, notice_on lines new w t.0 a.hart m t.1))
          | inr t ↦
              let same : event ≡ a = event_in t.0 in
              let number : n ≡ m = (let c : count_in a.hart lines + 1 ≡ m = t.1 in let o : count_in event.hart lines + 1 ≡ n = p.own in let s : count_in a.hart lines ≡ count_in event.hart lines = ap (λ (z : Event). count_in z.hart lines) (sym same) in omega arith) in
              let apart_here : w ≢ event.hart = λ e. apart (e ∙ ap (λ (z : Event). z.hart) same) in
              let is_loud : is_alert_kind event.kind ≡ true = subst (λ (z : Event). is_alert_kind z.kind ≡ true) (sym same) alert in
              let t = p.each w (all is_loud w inside apart_here) apart_here in
              subst (λ (z : ℕ). HasNotice (lines ++ new ∷ []) w z m) (ap (λ (z : Event). z.hart) same) (subst (λ (z : ℕ). HasNotice (lines ++ new ∷ []) w event.hart z) number (t.0, notice_on lines new w t.0 event.hart n t.1))
        ];
        bare = λ i line at. elim (either lines new i line at) [
          | inl t ↦ p.bare i line t.1
          | inr t ↦ ap (λ (z : Line). z.arcs) t.1
        ];
      }
    where
      here : (m : ℕ) → n ≡ m → IsRecord (lines ++ new ∷ []) (length lines) event.hart m new
      here m e = subst (λ (z : ℕ). IsRecord (lines ++ new ∷ []) (length lines) event.hart z new) (p.own ∙ e) (last_record lines new)

      next : IsNextLine lines new harts
      next = record {
        hart = known;
        settled = λ k u m notice. elim (p.named event.hart k u m notice) [
          | inl alert ↦ alert_low lines u m alert
          | inr t ↦ absurd ((p.flow.notices notice.0 event.hart k notice.1 notice.2 u m notice.3).1 t.1)
        ];
        arcs = no_arc;
        notice = λ u m is. absurd (let e : entry.Event event ≡ notice_of event.hart u m = is in cc);
      }

  first : (g : List Line) → AreNoticed harts g → Telling harts event.hart (count_in event.hart g + 1) 0 g
  first g p = record {
    flow = p.flow;
    own = refl;
    named = λ w k u m notice. inl (p.named w k u m notice);
    told = p.told;
    each = λ w low other. absurd (omega (arith, low));
    bare = p.bare;
  }

  pub event_placed : (g : List Line) → AreNoticed harts g → AreNoticed harts (with_event harts g event)
  event_placed g p = by (is_alert_kind event.kind) refl
    where
      n : ℕ
      n = count_in event.hart g + 1

      by : (b : Bool) → is_alert_kind event.kind ≡ b → AreNoticed harts (g ++ (notices_below event.hart n (if b then harts else 0) ++ new ∷ []))
      by true loud = subst (AreNoticed harts) (append_assoc g (notices_below event.hart n harts) (new ∷ []))
          (ends n harts (g ++ notices_below event.hart n harts) (each_told harts event.hart n known g harts (omega arith) (first g p)) (λ a w inside apart. inside) (λ w low. loud))
      by false quiet = ends n 0 g (first g p) (λ loud. absurd (let e : false ≡ true = sym quiet ∙ loud in cc)) (λ w low. absurd (omega (arith, low)))

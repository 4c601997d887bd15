-- Two logs with the same records: they have the same notices and events.
use Rattle.std.proofs.Common.{◌≡◌, ℕ, zero, suc, ◌+◌, ◌<◌, ◌≤◌, List, [], ◌∷◌, length, refl, sym, ap, ◌∙◌, subst, if◌then◌else◌, eqb}
use mathlib.Core.Option.{some, some-injective, some-ne-none}
use lib.ListN.{get_elem?}
use Rattle.pl_event.specs.declared.event.Event.{Event}
use Rattle.pl_event.specs.declared.log.Line.{Line}
use Rattle.pl_event.specs.declared.log.Record.{Record}
use Rattle.pl_event.specs.Edges.{IsArc, IsNotice, IsAfter, IsFlow}
use Rattle.pl_event.specs.Numbers.{hart_of}
use Rattle.pl_event.specs.Records.{records_before, IsRecord, IsEvent}
use Rattle.pl_event.proofs.Places.{one_place}
use Rattle.arc_reduce.specs.Reduction.{records_in}

pub no_cons : (r : Record) (rs : List Record) → [] ≡ r ∷ rs → ⊥
no_cons r rs e = cc

pub head_of : {a b : Record} {xs ys : List Record} → a ∷ xs ≡ b ∷ ys → a ≡ b
head_of e = cc

pub rest_of : {a b : Record} {xs ys : List Record} → a ∷ xs ≡ b ∷ ys → xs ≡ ys
rest_of e = cc

pub count_same : (g f : List Line) → records_in g ≡ records_in f → (h i : ℕ) → records_before h g i ≡ records_before h f i
count_same [] [] e h i = refl
count_same [] (b ∷ f) e h i = absurd (no_cons _ _ e)
count_same (a ∷ g) [] e h i = absurd (no_cons _ _ (sym e))
count_same (a ∷ g) (b ∷ f) e h zero = refl
count_same (a ∷ g) (b ∷ f) e h (suc i) = λ d. (if eqb (hart_of (head_of e d)) h then 1 else 0) + count_same g f (rest_of e) h i d

pub length_same : (g f : List Line) → records_in g ≡ records_in f → length g ≡ length f
length_same [] [] e = refl
length_same [] (b ∷ f) e = absurd (no_cons _ _ e)
length_same (a ∷ g) [] e = absurd (no_cons _ _ (sym e))
length_same (a ∷ g) (b ∷ f) e = ap suc (length_same g f (rest_of e))

pub at_same : (g f : List Line) → records_in g ≡ records_in f → (i : ℕ) (l : Line) → get_elem? g i ≡ some l → (k : Line) × (get_elem? f i ≡ some k) × (l.what ≡ k.what)
at_same [] f e i l at = absurd (some-ne-none l (sym at))
at_same (a ∷ g) [] e i l at = absurd (no_cons _ _ (sym e))
at_same (a ∷ g) (b ∷ f) e zero l at = (b, refl, ap (λ (z : Line). z.what) (sym (some-injective a l at)) ∙ head_of e)
at_same (a ∷ g) (b ∷ f) e (suc i) l at = at_same g f (rest_of e) i l at

module _ (g f : List Line) (same : records_in g ≡ records_in f) where
  pub record_same : (i h m : ℕ) (l : Line) → IsRecord g i h m l → (k : Line) × IsRecord f i h m k × (l.what ≡ k.what)
  record_same i h m l is = let t = at_same g f same i l is.at in
      (t.0, record { at = t.1; hart = ap hart_of (sym t.2) ∙ is.hart; number = ap (λ (z : ℕ). z + 1) (sym (count_same g f same h i)) ∙ is.number }, t.2)

  pub notice_same : (u n h m : ℕ) → IsNotice g u n h m → IsNotice f u n h m
  notice_same u n h m a = let t = record_same a.0 u n a.1 a.2 in (a.0, t.0, t.1, sym t.2 ∙ a.3)

  pub after_same : (u n h m : ℕ) → IsAfter g u n h m → IsAfter f u n h m
  after_same u n h m a = let t = record_same a.0 h m a.1 a.3 in (a.0, t.0, a.2, t.1, a.4, notice_same h a.2 u n a.5)

  pub event_same : (i n : ℕ) (a : Event) → IsEvent g i n a → IsEvent f i n a
  event_same i n a x = let t = record_same i a.hart n x.0 x.1 in (t.0, t.1, sym t.2 ∙ x.2)

-- with some of its arcs a log keeps what its arcs and notices keep
pub fewer_arcs : (harts : ℕ) (g f : List Line) → records_in g ≡ records_in f → ((u n h m : ℕ) → IsArc g u n h m → IsArc f u n h m) → IsFlow harts f → IsFlow harts g
fewer_arcs harts g f same only flow = record {
  within = λ i h m line is. (let t = record_same g f same i h m line is in flow.within i h m t.0 t.1);
  arcs = λ i h m line is u n arc. (let t = record_same g f same i h m line is in
      let a = only u n h m (i, line, is, arc) in
      let place = one_place f h m a.0 i a.1 t.0 a.2 t.1 in
      let r = flow.arcs a.0 h m a.1 a.2 u n a.3 in
      (r.0, r.1, r.2, subst (λ (z : ℕ). n ≤ z) (ap (records_before u f) place.0 ∙ sym (count_same g f same u i)) r.3));
  notices = λ i h m line is u n told. (let t = record_same g f same i h m line is in
      let r = flow.notices i h m t.0 t.1 u n (sym t.2 ∙ told) in
      (r.0, r.1, subst (λ (z : ℕ). z < n) (sym (count_same g f same u i)) r.2));
  closed = λ i h m line is u n told. (let t = record_same g f same i h (m + 1) line is in
      subst (λ (z : ℕ). n ≤ z) (sym (count_same g f same u i)) (flow.closed i h m t.0 t.1 u n (notice_same g f same h m u n told)));
}

pub empty_flow : (harts : ℕ) → IsFlow harts []
empty_flow harts = record {
  within = λ i h m line is. absurd (some-ne-none line (sym is.at));
  arcs = λ i h m line is u n arc. absurd (some-ne-none line (sym is.at));
  notices = λ i h m line is u n told. absurd (some-ne-none line (sym is.at));
  closed = λ i h m line is u n told. absurd (some-ne-none line (sym is.at));
}

-- The laws of a log whose records are events that touch no memory, and facts about each element of a short list.
use Rattle.std.proofs.Common.{◌≡◌, ◌≢◌, ℕ, zero, suc, ◌+◌, ◌<◌, ◌≤◌, true, false, List, [], ◌∷◌, length, get_or, replicate, All, Some, None, slice_index_or, sym, ap, ◌∙◌, subst, inl, inr, arith}
use mathlib.Core.Option.{some, some-injective, some-ne-none}
use lib.ListN.{get_elem?}
use Rattle.pl_event.specs.declared.event.Event.{Event}
use Rattle.pl_event.specs.declared.event.Kind.{Kind}
use Rattle.pl_event.specs.declared.event.Kind.TheVariants.{Im}
use Rattle.pl_event.specs.declared.log.Line.{Line}
use Rattle.pl_event.specs.declared.log.Log.{Log}
use Rattle.pl_event.specs.declared.log.Record.{Record}
use Rattle.pl_event.specs.declared.log.Record.TheVariants as entry
use Rattle.pl_event.specs.Conflicts.{IsOrdered, ShareBlock, MeetByAlert, IsConcerned, access_of}
use Rattle.pl_event.specs.Edges.{IsFlow, arc_of, notice_of}
use Rattle.pl_event.specs.Mapping.{mapped_at, KeepsPages}
use Rattle.pl_event.specs.Numbers.{hart_of}
use Rattle.pl_event.specs.Records.{records_before, IsEvent, IsRecord}
use Rattle.pl_event.specs.Runs.{IsOpening, IsSoundLine, IsSoundRecord, EventAt, ends_hart, IsRunLog}

-- a fact of each element of a list and its position, from position k on
abbrev pub AllFrom : {A : Type 0} → (ℕ → A → Type 0) → ℕ → List A → Type 0
AllFrom P k [] = Unit {0}
AllFrom P k (x ∷ xs) = P k x × AllFrom P (suc k) xs

each_from : {A : Type 0} (P : ℕ → A → Type 0) (k : ℕ) (xs : List A) → AllFrom P k xs → (p j : ℕ) (a : A) → get_elem? xs p ≡ some a → j ≡ k + p → P j a
each_from P k [] all p j a e s = absurd (some-ne-none a (sym e))
each_from P k (x ∷ xs) all zero j a e s = let here : k ≡ j = omega arith in subst (λ (z : ℕ × _). P z.0 z.1) (λ i. (here i, some-injective x a e i)) all.0
each_from P k (x ∷ xs) all (suc p) j a e s = each_from P (suc k) xs all.1 p j a e (omega arith)

pub each : {A : Type 0} (P : ℕ → A → Type 0) (xs : List A) → AllFrom P 0 xs → (p : ℕ) (a : A) → get_elem? xs p ≡ some a → P p a
each P xs all p a e = each_from P 0 xs all p p a e (omega arith)

pub all_of : {A : Type 0} (P : A → Type 0) (xs : List A) → ((i : ℕ) (x : A) → get_elem? xs i ≡ some x → P x) → All P xs
all_of {A} P xs f = λ k d low. at xs f k d low
  where
    at : (xs : List A) → ((i : ℕ) (x : A) → get_elem? xs i ≡ some x → P x) → (k : ℕ) (d : A) → k < length xs → P (get_or xs k d)
    at [] f k d low = absurd (omega arith)
    at (x ∷ xs) f zero d low = f 0 x (λ i. some x)
    at (x ∷ xs) f (suc k) d low = at xs (λ i y e. f (suc i) y e) k d (omega arith)

-- an event that touches no memory
abbrev pub plain : ℕ → Record
plain h = entry.Event (record { hart = h; kind = Im 5 })

-- what is asked of a line: its event touches no memory, its hart is one of the run, and its arcs come from earlier records
-- of other harts
pub record IsPlain (harts : ℕ) (lines : List Line) (i : ℕ) (line : Line) : Type 0 where
  pub is : (h : ℕ) × (line.what ≡ plain h) × (h < harts)
  pub eight : length line.arcs ≡ 8
  pub arcs : (u n : ℕ) → arc_of line u ≡ Some n → (u < harts) × (u ≢ hart_of line.what) × (1 ≤ n) × (n ≤ records_before u lines i)

pub no_number : (k u n : ℕ) → slice_index_or (replicate k None) u None ≡ Some n → ⊥
no_number zero u n e = absurd (let f : None ≡ Some n = e in cc)
no_number (suc k) zero n e = absurd (let f : None ≡ Some n = e in cc)
no_number (suc k) (suc u) n e = no_number k u n e

module _ (log : Log) (fine : (i : ℕ) (line : Line) → get_elem? log.lines i ≡ some line → IsPlain log.harts log.lines i line) where
  abbrev g : List Line
  g = log.lines

  no_notice : (i h m : ℕ) (line : Line) → IsRecord g i h m line → (v u n : ℕ) → line.what ≡ notice_of v u n → ⊥
  no_notice i h m line is v u n e = absurd (let t = (fine i line is.at).is in let f : plain t.0 ≡ notice_of v u n = sym t.1 ∙ e in cc)

  pub plain_flow : IsFlow log.harts g
  plain_flow = record {
    within = λ i h m line is. let t = (fine i line is.at).is in subst (λ (z : ℕ). z < log.harts) (sym (ap hart_of t.1) ∙ is.hart) t.2;
    arcs = λ i h m line is u n e. let t = (fine i line is.at).arcs u n e in (t.0, (λ s. t.1 (s ∙ sym is.hart)), t.2, t.3);
    notices = λ i h m line is u n e. absurd (no_notice i h m line is h u n e);
    closed = λ i h m line is u n (j, l, there, e). absurd (no_notice j h m l there h u n e);
  }

  plain_kind : (i n : ℕ) (a : Event) → IsEvent g i n a → a.kind ≡ Im 5
  plain_kind i n a (line, is, e) = let t = (fine i line is.at).is in let f : plain t.0 ≡ entry.Event a = sym t.1 ∙ e in let s : record { hart = t.0; kind = Im 5 } ≡ a = cc in sym (ap (λ (z : Event). z.kind) s)

  none_shared : (k l : Kind) → k ≡ Im 5 → ShareBlock (access_of log.block k) (access_of log.block l) → ⊥
  none_shared k l e s = subst (λ (z : Kind). ShareBlock (access_of log.block z) (access_of log.block l)) e s

  no_alert : (k l : Kind) → k ≡ Im 5 → MeetByAlert k l → ⊥
  no_alert k l e m = by (subst (λ (z : Kind). MeetByAlert z l) e m)
    where
      none : IsConcerned (Im 5) → ⊥
      none (inl x) = absurd (let f : false ≡ true = x in cc)
      none (inr x) = absurd (let f : false ≡ true = x in cc)

      by : MeetByAlert (Im 5) l → ⊥
      by (inl x) = absurd (let f : false ≡ true = x.0 in cc)
      by (inr x) = none x.0

  pub plain_ordered : IsOrdered log
  plain_ordered = record {
    accesses = λ i j a n b m low pair share. absurd (none_shared a.kind b.kind (plain_kind i n a pair.first) share);
    alerts = λ i j a n b m low pair meet. absurd (no_alert a.kind b.kind (plain_kind i n a pair.first) meet);
  }

  event_kind : (i : ℕ) (a : Event) → EventAt g i a → a.kind ≡ Im 5
  event_kind i a (line, at, e) = let t = (fine i line at).is in let f : plain t.0 ≡ entry.Event a = sym t.1 ∙ e in let s : record { hart = t.0; kind = Im 5 } ≡ a = cc in sym (ap (λ (z : Event). z.kind) s)

  sound : (i : ℕ) (line : Line) → get_elem? g i ≡ some line → IsSoundLine log.harts line
  sound i line at =
      let f = fine i line at in
      (f.eight, subst (IsSoundRecord log.harts line.arcs) (sym f.is.1) (f.is.2, omega arith))

  pub plain_log : IsOpening log → IsRunLog log
  plain_log opening = record {
    opening = opening;
    sound = all_of (IsSoundLine log.harts) g sound;
    flow = plain_flow;
    alerts = λ h k u n (j, line, is, e). absurd (no_notice j h k line is h u n e);
    live = λ i j a b l x y same. ap ends_hart (event_kind i a x);
    maps = λ i event at. subst (λ (z : Kind). KeepsPages (mapped_at log i) z) (sym (event_kind i event at)) tt;
  }

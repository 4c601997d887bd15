-- The placed log of the events of a run is a log of it.
use Rattle.std.proofs.Common.{◌≡◌, ℕ, zero, suc, ◌<◌, Bool, false, List, [], ◌∷◌, ◌++◌, length, take, Option, refl, sym, ap, subst, ◌∙◌, arith}
use Rattle.std.specs.Prelude.{fold, All}
use Rattle.std.specs.List.{AllByRecursion, cons_option}
use Rattle.std.proofs.lemmas.List.Elements.{All-from_recursion, recursion_from_All}
use mathlib.Core.Option.{some, some-injective, some-ne-none}
use lib.ListN.{get_elem?}
use Rattle.pl_event.specs.declared.event.Event.{Event}
use Rattle.pl_event.specs.declared.log.Line.{Line}
use Rattle.pl_event.specs.declared.log.Log.{Log}
use Rattle.pl_event.specs.declared.log.Record.{Record}
use Rattle.pl_event.specs.declared.log.Record.TheVariants as entry
use Rattle.pl_event.specs.Edges.{no_arcs}
use Rattle.pl_event.specs.Mapping.{mapped_after, KeepsPages}
use Rattle.pl_event.specs.Numbers.{event_of, events_of}
use Rattle.pl_event.specs.OpeningPages.{is_in_runs}
use Rattle.pl_event.specs.Runs.{IsOpening, IsRunLog, IsSoundLine, IsSoundRecord, EventAt, ends_hart}
use Rattle.pl_event.proofs.MappedPages.{line_holds}
use Rattle.conflict_alerts.specs.Following.{pages_after, FollowsEvents, AllFollow}
use Rattle.conflict_alerts.specs.Placing.{placed, AreNoticed}
use Rattle.conflict_alerts.proofs.Placed.{same_events, all_noticed}

-- Events of lines

from_rest : (P : Event → Type 0) (what : Record) (rest : List Event) → AllByRecursion P (cons_option (event_of what) rest) → AllByRecursion P rest
from_rest P (entry.Event event) rest all = all.1
from_rest P (entry.Notice hart point) rest all = all

event_holds : (P : Event → Type 0) (lines : List Line) → AllByRecursion P (events_of lines) → (i : ℕ) (a : Event) → EventAt lines i a → P a
event_holds P [] all i a is = absurd (some-ne-none is.0 (sym is.1))
event_holds P (l ∷ lines) all zero a is =
    let what : l.what ≡ entry.Event a = ap (λ (x : Line). x.what) (some-injective l is.0 is.1) ∙ is.2 in
    (subst (λ (w : Record). AllByRecursion P (cons_option (event_of w) (events_of lines))) what all).0
event_holds P (l ∷ lines) all (suc i) a is = event_holds P lines (from_rest P l.what (events_of lines) all) i a is

with_first : (P : Event → Type 0) (what : Record) (rest : List Event) → ((a : Event) → what ≡ entry.Event a → P a) → AllByRecursion P rest → AllByRecursion P (cons_option (event_of what) rest)
with_first P (entry.Event event) rest first all = (first event refl, all)
with_first P (entry.Notice hart point) rest first all = all

events_hold : (P : Event → Type 0) (lines : List Line) → ((i : ℕ) (a : Event) → EventAt lines i a → P a) → AllByRecursion P (events_of lines)
events_hold P [] holds = tt
events_hold P (l ∷ lines) holds = with_first P l.what (events_of lines) (λ a is. holds 0 a (l, refl, is)) (events_hold P lines (λ i a is. holds (suc i) a is))

in_front : (lines : List Line) (i k : ℕ) (a : Event) → EventAt (take i lines) k a → (k < i) × EventAt lines k a
in_front lines zero k a is = absurd (some-ne-none is.0 (sym is.1))
in_front [] (suc i) k a is = absurd (some-ne-none is.0 (sym is.1))
in_front (l ∷ lines) (suc i) zero a is = (omega arith, is)
in_front (l ∷ lines) (suc i) (suc k) a is = let t = in_front lines i k a is in (omega (arith, t.0), t.1)

before_it : (lines : List Line) (i k : ℕ) (a : Event) → k < i → EventAt lines k a → EventAt (take i lines) k a
before_it lines zero k a low is = absurd (omega (arith, low))
before_it [] (suc i) k a low is = is
before_it (l ∷ lines) (suc i) zero a low is = is
before_it (l ∷ lines) (suc i) (suc k) a low is = before_it lines i k a (omega (arith, low)) is

-- the events before the one at a position, and those after it
split_at : (lines : List Line) (j : ℕ) (b : Event) → EventAt lines j b → (rest : List Event) × (events_of lines ≡ events_of (take j lines) ++ b ∷ rest)
split_at [] j b is = absurd (some-ne-none is.0 (sym is.1))
split_at (l ∷ lines) zero b is = (events_of lines, ap (λ (w : Record). cons_option (event_of w) (events_of lines)) (ap (λ (x : Line). x.what) (some-injective l is.0 is.1) ∙ is.2))
split_at (l ∷ lines) (suc j) b is = let t = split_at lines j b is in (t.0, by l.what t.0 t.1)
  where
    by : (r : Record) (rest : List Event) → events_of lines ≡ events_of (take j lines) ++ b ∷ rest → cons_option (event_of r) (events_of lines) ≡ cons_option (event_of r) (events_of (take j lines)) ++ b ∷ rest
    by (entry.Event event) rest e = ap (λ (es : List Event). event ∷ es) e
    by (entry.Notice hart point) rest e = e

head_of : {a b : Event} {xs ys : List Event} → a ∷ xs ≡ b ∷ ys → a ≡ b
head_of e = cc

rest_of : {a b : Event} {xs ys : List Event} → a ∷ xs ≡ b ∷ ys → xs ≡ ys
rest_of e = cc

no_cons : (a : Event) (xs ys : List Event) → [] ≡ xs ++ a ∷ ys → ⊥
no_cons a [] ys e = cc
no_cons a (x ∷ xs) ys e = cc

-- where an event of the lines is
position_of : (lines : List Line) (before : List Event) (event : Event) (after : List Event) → events_of lines ≡ before ++ event ∷ after → (i : ℕ) × EventAt lines i event × (events_of (take i lines) ≡ before)
position_of [] before event after e = absurd (no_cons event before after e)
position_of (l ∷ lines) before event after e = by l.what refl before e (λ front at. position_of lines front event after at)
  where
    by : (r : Record) → l.what ≡ r → (before : List Event) → cons_option (event_of r) (events_of lines) ≡ before ++ event ∷ after
        → ((front : List Event) → events_of lines ≡ front ++ event ∷ after → (i : ℕ) × EventAt lines i event × (events_of (take i lines) ≡ front))
        → (i : ℕ) × EventAt (l ∷ lines) i event × (events_of (take i (l ∷ lines)) ≡ before)
    by (entry.Event a) is [] e later = (0, (l, refl, is ∙ ap entry.Event (head_of e)), refl)
    by (entry.Event a) is (b ∷ before) e later =
        let t = later before (rest_of e) in
        (suc t.0, t.1, ap (λ (w : Record). cons_option (event_of w) (events_of (take t.0 lines))) is ∙ (λ d. head_of e d ∷ t.2 d))
    by (entry.Notice hart point) is before e later =
        let t = later before e in
        (suc t.0, t.1, ap (λ (w : Record). cons_option (event_of w) (events_of (take t.0 lines))) is ∙ t.2)

-- Mapped pages

mapped_events : (mapped : ℕ → Bool) (lines : List Line) → fold mapped_after mapped lines ≡ pages_after mapped (events_of lines)
mapped_events mapped [] = refl
mapped_events mapped (l ∷ lines) = mapped_events (mapped_after mapped l) lines ∙ first l.what l.arcs
  where
    first : (what : Record) (arcs : List (Option ℕ)) → pages_after (mapped_after mapped (record { what = what; arcs = arcs })) (events_of lines) ≡ pages_after mapped (cons_option (event_of what) (events_of lines))
    first (entry.Event event) arcs = refl
    first (entry.Notice hart point) arcs = refl

-- Logs

abbrev Lives : Event → Event → Type 0
Lives event a = a.hart ≡ event.hart → ends_hart a.kind ≡ false

each : (P : Line → Type 0) (g : List Line) → ((i : ℕ) (line : Line) → get_elem? g i ≡ some line → P line) → AllByRecursion P g
each P [] holds = tt
each P (a ∷ g) holds = (holds 0 a refl, each P g (λ i line at. holds (suc i) line at))

pub follows_again : (log : Log) → IsRunLog log → AllFollow log.harts log.pages (events_of log.lines)
follows_again log run before event after e =
    let t = position_of log.lines before event after e in
    subst (λ (z : List Event). FollowsEvents log.harts log.pages z event) t.2 (there t.0 t.1)
  where
    there : (i : ℕ) → EventAt log.lines i event → FollowsEvents log.harts log.pages (events_of (take i log.lines)) event
    there i is = record {
      valid = subst (IsSoundRecord log.harts is.0.arcs) is.2 (line_holds (IsSoundLine log.harts) log.lines run.sound i is.0 is.1).1;
      live = All-from_recursion (Lives event) (events_of (take i log.lines))
          (events_hold (Lives event) (take i log.lines) (λ k a at. let t = in_front log.lines i k a at in run.live k i a event t.0 t.1 is));
      maps = subst (λ (m : ℕ → Bool). KeepsPages m event.kind) (mapped_events (is_in_runs log.pages) (take i log.lines)) (run.maps i event is);
    }

module _ (log : Log) (events : List Event) (opening : IsOpening log) (follow : AllFollow log.harts log.pages events) (is_placed : log.lines ≡ placed log.harts events) where
  abbrev g : List Line
  g = log.lines

  same : events ≡ events_of g
  same = sym (ap events_of is_placed ∙ same_events log.harts events)

  follows_at : (j : ℕ) (b : Event) → EventAt g j b → FollowsEvents log.harts log.pages (events_of (take j g)) b
  follows_at j b is = let t = split_at g j b is in follow (events_of (take j g)) b t.0 (same ∙ t.1)

  inside : All (λ event. event.hart < log.harts) events
  inside = subst (All (λ (event : Event). event.hart < log.harts)) (sym same)
      (All-from_recursion (λ (event : Event). event.hart < log.harts) (events_of g) (events_hold (λ (event : Event). event.hart < log.harts) g (λ i a is. (follows_at i a is).valid.0)))

  noticed : AreNoticed log.harts g
  noticed = subst (AreNoticed log.harts) (sym is_placed) (all_noticed log.harts events inside)

  sound_line : (i : ℕ) (line : Line) → get_elem? g i ≡ some line → IsSoundLine log.harts line
  sound_line i line at = (ap length bare, by line.what refl)
    where
      bare : line.arcs ≡ no_arcs
      bare = noticed.bare i line at

      by : (r : Record) → line.what ≡ r → IsSoundRecord log.harts line.arcs line.what
      by (entry.Event event) is = subst (IsSoundRecord log.harts line.arcs) (sym is) (follows_at i event (line, at, is)).valid
      by (entry.Notice hart point) is = subst (IsSoundRecord log.harts line.arcs) (sym is) bare

  pub placed_run : IsRunLog log
  placed_run = record {
    opening = opening;
    sound = All-from_recursion (IsSoundLine log.harts) g (each (IsSoundLine log.harts) g sound_line);
    flow = noticed.flow;
    alerts = noticed.named;
    live = λ i j a b low x y own. event_holds (Lives b) (take j g) (recursion_from_All (Lives b) (events_of (take j g)) (follows_at j b y).live) i a (before_it g j i a low x) own;
    maps = λ j b y. subst (λ (m : ℕ → Bool). KeepsPages m b.kind) (sym (mapped_events (is_in_runs log.pages) (take j g))) (follows_at j b y).maps;
  }

-- The placed log of some events.
use Rattle.std.proofs.Common.{◌≡◌, ℕ, zero, suc, ◌+◌, ◌<◌, Bool, true, false, eqb, List, [], ◌∷◌, ◌++◌, append-nil, append_assoc, refl, sym, ap, ◌∙◌, if◌then◌else◌}
use Rattle.std.specs.Prelude.{fold, All}
use Rattle.std.specs.List.{AllByRecursion}
use Rattle.std.proofs.lemmas.List.Sums.{fold-append}
use Rattle.std.proofs.lemmas.List.Elements.{filter_map-append, recursion_from_All}
use mathlib.Core.Option.{some-ne-none}
use Rattle.pl_event.specs.declared.event.Event.{Event}
use Rattle.pl_event.specs.declared.log.Line.{Line}
use Rattle.pl_event.specs.Numbers.{event_of, events_of}
use Rattle.conflict_alerts.specs.Placing.{event_line, notice_line, notice_to, notices_below, notices_of, told_below, lines_of, with_event, count_in, placed, next_number, AreNoticed}
use Rattle.conflict_alerts.proofs.Telling.{event_placed}

no_events : (h n u : ℕ) → events_of (notices_below h n u) ≡ []
no_events h n zero = refl
no_events h n (suc u) = filter_map-append (λ (line : Line). event_of line.what) (notices_below h n u) (notice_to u h n) ∙ (λ d. no_events h n u d ++ by (eqb u h) d)
  where
    by : (b : Bool) → events_of (if b then [] else notice_line u h n ∷ []) ≡ []
    by true = refl
    by false = refl

one_event : (harts : ℕ) (lines : List Line) (event : Event) → events_of (with_event harts lines event) ≡ events_of lines ++ event ∷ []
one_event harts lines event =
    let n : ℕ = count_in event.hart lines + 1 in
    filter_map-append (λ (line : Line). event_of line.what) lines (lines_of harts n event)
    ∙ ap (λ (es : List Event). events_of lines ++ es)
    (filter_map-append (λ (line : Line). event_of line.what) (notices_of harts n event) (event_line event ∷ []) ∙ ap (λ (es : List Event). es ++ event ∷ []) (no_events event.hart n (told_below harts event.kind)))

all_events : (harts : ℕ) (events : List Event) (lines : List Line) → events_of (fold (with_event harts) lines events) ≡ events_of lines ++ events
all_events harts [] lines = sym (append-nil (events_of lines))
all_events harts (e ∷ es) lines = all_events harts es (with_event harts lines e) ∙ (ap (λ (z : List Event). z ++ es) (one_event harts lines e) ∙ append_assoc (events_of lines) (e ∷ []) es)

pub same_events : (harts : ℕ) (events : List Event) → events_of (placed harts events) ≡ events
same_events harts events = all_events harts events []

pub one_more : (harts : ℕ) (events : List Event) (event : Event) → placed harts (events ++ event ∷ []) ≡ placed harts events ++ lines_of harts (next_number harts events event.hart) event
one_more harts events event = fold-append (with_event harts) [] events (event ∷ [])

none_noticed : (harts : ℕ) → AreNoticed harts []
none_noticed harts = record {
  flow = record {
    within = λ i h m line is. absurd (some-ne-none line (sym is.at));
    arcs = λ i h m line is u n arc. absurd (some-ne-none line (sym is.at));
    notices = λ i h m line is u n told. absurd (some-ne-none line (sym is.at));
    closed = λ i h m line is u n told. absurd (some-ne-none line (sym is.at));
  };
  named = λ h k u n a. absurd (some-ne-none a.1 (sym a.2.at));
  told = λ i n a is. absurd (some-ne-none is.0 (sym is.1.at));
  bare = λ i line at. absurd (some-ne-none line (sym at));
}

from_noticed : (harts : ℕ) (events : List Event) → AllByRecursion (λ event. event.hart < harts) events → (lines : List Line) → AreNoticed harts lines → AreNoticed harts (fold (with_event harts) lines events)
from_noticed harts [] all lines p = p
from_noticed harts (e ∷ es) all lines p = from_noticed harts es all.1 (with_event harts lines e) (event_placed harts e all.0 lines p)

pub all_noticed : (harts : ℕ) (events : List Event) → All (λ event. event.hart < harts) events → AreNoticed harts (placed harts events)
all_noticed harts events all = from_noticed harts events (recursion_from_All (λ (event : Event). event.hart < harts) events all) [] (none_noticed harts)

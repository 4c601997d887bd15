-- The events of a run have recorded lines, of which those of its first events are the start.
use Rattle.std.proofs.Common.{◌≡◌, ℕ, ◌+◌, ◌<◌, ◌≤◌, List, [], ◌∷◌, ◌++◌, append-nil, append_assoc, length, take, get_or, Some, slice_get, refl, sym, ap, ◌∙◌, subst}
use Rattle.std.specs.Prelude.{All, fold}
use Rattle.std.proofs.lemmas.List.Sums.{fold-append}
use Rattle.std.proofs.lemmas.Option.{slice_get-get_or}
use Rattle.pl_event.specs.declared.event.Event.{Event}
use Rattle.pl_event.specs.declared.log.Line.{Line}
use Rattle.pl_event.specs.Edges.{IsFlow}
use Rattle.core_sim.specs.declared.job.Job.{Job}
use Rattle.core_sim.specs.Entries.{Entry}
use Rattle.core_sim.specs.RunEvents.{MayFollow, events_of_entry, events_of_run}
use Rattle.conflict_alerts.specs.Placing.{count_in, lines_of, placed, with_event}
use Rattle.conflict_alerts.proofs.Placed.{all_noticed}
use Rattle.arc_capture.specs.Recorded.{AreRecorded, IsKept}
use Rattle.run_log.proofs.Keeping.{GoesOn, goes_on, nothing_kept}

record PlacedOn (harts : ℕ) (g : List Line) (events : List Event) : Type 0 where
  more : List Line
  are : fold (with_event harts) g events ≡ g ++ more

placed_on : (harts : ℕ) (events : List Event) (g : List Line) → PlacedOn harts g events
placed_on harts [] g = record { more = []; are = sym (append-nil g) }
placed_on harts (e ∷ es) g =
    let first : List Line = lines_of harts (count_in e.hart g + 1) e in
    let r : PlacedOn harts (with_event harts g e) es = placed_on harts es (with_event harts g e) in
    record { more = first ++ r.more; are = r.are ∙ append_assoc g first r.more }

pub record RecordedOn (harts size : ℕ) (events later : List Event) (lines : List Line) : Type 0 where
  pub more : List Line
  pub are : AreRecorded harts size (events ++ later) (lines ++ more)

pub recorded_on : (harts size : ℕ) (events later : List Event) (lines : List Line) → harts ≤ 8 → All (λ event. event.hart < harts) (events ++ later) → AreRecorded harts size events lines → RecordedOn harts size events later lines
recorded_on harts size events later lines few inside is =
    let on : PlacedOn harts (placed harts events) later = placed_on harts later (placed harts events) in
    let all : placed harts (events ++ later) ≡ placed harts events ++ on.more = fold-append (with_event harts) [] events later ∙ on.are in
    let flow : IsFlow harts (placed harts events ++ on.more) = subst (IsFlow harts) all (all_noticed harts (events ++ later) inside).flow in
    let r : GoesOn harts size few (placed harts events) on.more lines = goes_on harts size few on.more (placed harts events) lines flow is in
    record { more = r.later; are = subst (λ (base : List Line). IsKept size base (lines ++ r.later)) (sym all) r.is }

pub are_recorded : (harts size : ℕ) (events : List Event) → harts ≤ 8 → All (λ event. event.hart < harts) events → RecordedOn harts size [] events []
are_recorded harts size events few inside = recorded_on harts size [] events [] few inside (nothing_kept size)

pub all_inside : (job : Job) (events : List Event) → ((i : ℕ) (event : Event) → slice_get events i ≡ Some event → MayFollow job (take i events) event) → All (λ event. event.hart < job.harts) events
all_inside job events each i d low = (each i (get_or events i d) (slice_get-get_or events i d low)).valid.0

pub record EventsOn (entries later : List Entry) : Type 0 where
  pub more : List Event
  pub are : events_of_run (later ++ entries) ≡ events_of_run entries ++ more

pub events_on : (entries later : List Entry) → EventsOn entries later
events_on entries [] = record { more = []; are = sym (append-nil (events_of_run entries)) }
events_on entries (e ∷ later) =
    let r : EventsOn entries later = events_on entries later in
    record {
      more = r.more ++ events_of_entry e;
      are = ap (λ (es : List Event). es ++ events_of_entry e) r.are ∙ append_assoc (events_of_run entries) r.more (events_of_entry e);
    }

-- What a probe makes of events, and how far it sees.
use Rattle.std.specs.Prelude.{ℕ, ◌+◌, Bool, true, false, List, [], ◌∷◌, ◌++◌, length, if◌then◌else◌}
use Rattle.pl_event.specs.declared.event.Event.{Event}
use Rattle.pl_event.specs.Numbers.{events_on}
use Rattle.replay_probes.specs.declared.probe.Shown.{Shown}
use Rattle.replay_probes.specs.declared.probe.See.{See}
use Rattle.replay_probes.specs.declared.probe.See.TheVariants.{Go, Stop}

-- a probe's name, its line over the events that it has seen, and whether it stops once it has seen these
pub record Meaning : Type 0 where
  pub name : List ℕ
  pub line : List Shown → List ℕ
  pub stops : List Shown → Bool

abbrev pub is_stop : See → Bool
is_stop Go = false
is_stop Stop = true

-- what was seen in the end, of further events too, up to the first at which it stops
abbrev pub up_to_stop : (List Shown → Bool) → List Shown → List Shown → List Shown
up_to_stop stops seen [] = seen
up_to_stop stops seen (shown ∷ further) =
    if stops (seen ++ shown ∷ []) then seen ++ shown ∷ [] else up_to_stop stops (seen ++ shown ∷ []) further

-- the line in the end, of one that has seen some events and is shown further ones
abbrev pub line_behind : Meaning → List Shown → List Shown → List ℕ
line_behind meaning seen further = meaning.line (up_to_stop meaning.stops seen further)

-- an event after those before it, with its place in the run and its number in its hart
abbrev pub shown_behind : List Event → Event → Shown
shown_behind before event = record {
  place = length before + 1;
  number = events_on event.hart before + 1;
  event = event;
}

abbrev pub shown_from : List Event → List Event → List Shown
shown_from before [] = []
shown_from before (event ∷ events) = shown_behind before event ∷ shown_from (before ++ event ∷ []) events

-- the events of a run, one by one
abbrev pub shown_of : List Event → List Shown
shown_of events = shown_from [] events

-- a probe's line over a run that it has seen nothing of
abbrev pub line_over : List Event → Meaning → List ℕ
line_over events meaning = line_behind meaning [] (shown_of events)

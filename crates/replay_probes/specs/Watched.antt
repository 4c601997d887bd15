-- What the probes of a run have seen of it.
use Rattle.std.specs.Prelude.{◌≡◌, ℕ, ◌<◌, List, [], ◌++◌, length, slice_index, slice_index_or}
use Rattle.pl_base.specs.declared.layout.TheConstants.{MAX_HARTS}
use Rattle.pl_event.specs.declared.event.Event.{Event}
use Rattle.pl_event.specs.Numbers.{events_on}
use Rattle.replay_probes.specs.declared.audience.Audience.{Audience}
use Rattle.replay_probes.specs.declared.probe.Shown.{Shown}
use Rattle.replay_probes.specs.declared.watch.Watch.{Watch}
use Rattle.replay_probes.specs.Meaning.{Meaning, line_behind, shown_of}
use Rattle.replay_probes.specs.Watches.{Telling, WillTell}

-- what a probe tells of a run that goes on
abbrev pub telling_behind : Meaning → List Event → Telling
telling_behind meaning events further = line_behind meaning [] (shown_of events ++ further)

abbrev pub place_of : {B : Type 0} → Audience B → ℕ
place_of audience = audience.place

module _ {B : Type 0} (meaning : B → Meaning) (has_seen : B → List Shown → Type 0) where
  -- probes with these meanings were shown these events, each up to its own stop
  pub record Watched (meanings : List Meaning) (events : List Event) (audience : Audience B) : Type 0 where
    pub place : audience.place ≡ length events
    pub counts : (h : ℕ) → h < MAX_HARTS → slice_index audience.counts h ≡ events_on h events
    pub many : length audience.watches.items ≡ length meanings
    pub telling : (k : ℕ) (watch : Watch B) (other : Meaning) → k < length meanings
        → WillTell meaning has_seen (telling_behind (slice_index_or meanings k other) events)
        (slice_index_or audience.watches.items k watch)

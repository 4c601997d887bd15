-- What the standard probes make of the events that they have seen.
use Rattle.std.specs.Prelude.{◌≡◌, ℕ, false, ◌==◌, List, Option, Some, None, if◌then◌else◌}
use Rattle.std.specs.Prelude.{count_by, sum_by, find, is_some, codes, slice_index}
use Rattle.pl_base.specs.Widths.{load_bytes, store_bytes}
use Rattle.pl_event.specs.Alerts.{is_alert_kind}
use Rattle.pl_event.specs.declared.event.Kind.{Kind}
use Rattle.pl_event.specs.declared.event.Kind.TheVariants.{Ld, St}
use Rattle.replay_probes.specs.declared.probe.Shown.{Shown}
use Rattle.replay_probes.specs.Meaning.{Meaning}
use Rattle.standard_probes.specs.ProbeLines.{kind_number, kinds_text, harts_text, bytes_text, alert_text}

-- how many of these have the number k
abbrev pub tally : (Shown → ℕ) → List Shown → ℕ → ℕ
tally number seen k = count_by (λ shown. number shown == k) seen

-- the counts are those of these events, by number
abbrev pub Tallies : (Shown → ℕ) → List ℕ → List Shown → Type 0
Tallies number counts seen = (k : ℕ) → slice_index counts k ≡ tally number seen k

abbrev pub kind_of_shown : Shown → ℕ
kind_of_shown shown = kind_number shown.event.kind

abbrev pub hart_of_shown : Shown → ℕ
hart_of_shown shown = shown.event.hart

abbrev pub kinds_meaning : Meaning
kinds_meaning = record {
  name = codes "kinds";
  line = λ seen. kinds_text (tally kind_of_shown seen);
  stops = λ seen. false;
}

abbrev pub harts_meaning : Meaning
harts_meaning = record {
  name = codes "harts";
  line = λ seen. harts_text (tally hart_of_shown seen);
  stops = λ seen. false;
}

-- the bytes of a load
abbrev pub loaded_by : Kind → ℕ
loaded_by (Ld width rd rb addr) = load_bytes width
loaded_by _ = 0

-- the bytes of a store
abbrev pub stored_by : Kind → ℕ
stored_by (St width rv rb addr) = store_bytes width
stored_by _ = 0

abbrev pub loaded : List Shown → ℕ
loaded seen = sum_by (λ shown. loaded_by shown.event.kind) seen

abbrev pub stored : List Shown → ℕ
stored seen = sum_by (λ shown. stored_by shown.event.kind) seen

pub record SumsBytes (loads stores : ℕ) (seen : List Shown) : Type 0 where
  pub loads_are : loads ≡ loaded seen
  pub stores_are : stores ≡ stored seen

abbrev pub bytes_meaning : Meaning
bytes_meaning = record {
  name = codes "bytes";
  line = λ seen. bytes_text (loaded seen) (stored seen);
  stops = λ seen. false;
}

-- the first event that the other harts are told of
abbrev pub first_alert : List Shown → Option Shown
first_alert seen = find (λ shown. is_alert_kind shown.event.kind) seen

-- the first alert of an earlier one, if there is one, and an event
abbrev pub first_alert_of : Option Shown → Shown → Option Shown
first_alert_of (Some first) shown = Some first
first_alert_of None shown = if is_alert_kind shown.event.kind then Some shown else None

-- it stops at the first alert
abbrev pub alert_meaning : Meaning
alert_meaning = record {
  name = codes "alert";
  line = λ seen. alert_text (first_alert seen);
  stops = λ seen. is_some (first_alert seen);
}

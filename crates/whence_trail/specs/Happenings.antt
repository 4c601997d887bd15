-- The events of a run with their instructions, the latest first.
use Rattle.std.specs.Prelude.{ℕ, ◌+◌, ◌==◌, List, [], ◌∷◌, Option, Some, None, if◌then◌else◌}
use Rattle.pl_event.specs.declared.event.Event.{Event}
use Rattle.pl_event.specs.declared.event.Kind.{Kind}
use Rattle.pl_event.specs.declared.event.Kind.TheVariants.{Ld, St, Al, Fr, Bf, Rd, Wr, Ft}
use Rattle.whence_trail.specs.declared.happening.Happening.{Happening}

-- the address that an event is about, and the first one of a range of bytes
abbrev pub address_of : Kind → Option ℕ
address_of (Ld width rd rb addr) = Some addr
address_of (St width rv rb addr) = Some addr
address_of (Al addr len) = Some addr
address_of (Fr addr len) = Some addr
address_of (Bf addr) = Some addr
address_of (Rd addr len) = Some addr
address_of (Wr addr len) = Some addr
address_of (Ft cause addr) = Some addr
address_of _ = None

-- how many of these events are of a hart
abbrev pub events_of_hart : List Happening → ℕ → ℕ
events_of_hart [] hart = 0
events_of_hart (x ∷ before) hart = events_of_hart before hart + (if x.origin.hart == hart then 1 else 0)

-- an event after these: its number is one more than its hart had
abbrev pub next_happening : List Happening → Event → ℕ → Happening
next_happening before event pc = record {
  origin = record { hart = event.hart; number = events_of_hart before event.hart + 1; pc = pc };
  kind = event.kind;
}

-- events after these; the instruction of each is at the pc of its hart
abbrev pub with_events : (ℕ → ℕ) → List Happening → List Event → List Happening
with_events pcs before [] = before
with_events pcs before (event ∷ events) =
    with_events pcs (next_happening before event (pcs event.hart) ∷ before) events

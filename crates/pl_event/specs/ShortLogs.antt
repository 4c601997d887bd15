-- Logs of two events, which say what conflicts and what orders it.
use Rattle.std.specs.Prelude.{◌≡◌, ◌≢◌, ℕ, ◌<◌, List, [], ◌∷◌, length, Option, Some, slice_set}
use Rattle.pl_base.specs.declared.layout.TheConstants.{MAX_HARTS}
use Rattle.pl_base.specs.declared.widths.LoadWidth.{LoadWidth}
use Rattle.pl_base.specs.declared.widths.StoreWidth.{StoreWidth}
use Rattle.pl_event.specs.declared.event.Event.{Event}
use Rattle.pl_event.specs.declared.event.Kind.TheVariants.{Ld, St}
use Rattle.pl_event.specs.declared.log.Line.{Line}
use Rattle.pl_event.specs.declared.log.Record.TheVariants as entry
use Rattle.pl_event.specs.Conflicts.{AreOrdered}
use Rattle.pl_event.specs.Edges.{no_arcs, notice_of}

abbrev pub event_line : Event → List (Option ℕ) → Line
event_line event arcs = record { what = entry.Event event; arcs = arcs }

-- a notice in hart u of record n of hart h
abbrev pub notice_line : ℕ → ℕ → ℕ → Line
notice_line u h n = record { what = notice_of u h n; arcs = no_arcs }

-- an arc from record 1 of hart h
abbrev pub arc_from : ℕ → List (Option ℕ)
arc_from h = slice_set no_arcs h (Some 1)

abbrev pub IsLoad : Event → ℕ → Type 0
IsLoad event addr = (width : LoadWidth) × (rd : ℕ) × (rb : ℕ) × (event.kind ≡ Ld width rd rb addr)

abbrev pub IsStore : Event → ℕ → Type 0
IsStore event addr = (width : StoreWidth) × (rv : ℕ) × (rb : ℕ) × (event.kind ≡ St width rv rb addr)

-- the events are of two harts
abbrev pub AreApart : Event → Event → Type 0
AreApart a b = (a.hart ≢ b.hart) × (a.hart < MAX_HARTS)

-- two events, the later one with these arcs
abbrev pub two : Event → Event → List (Option ℕ) → List Line
two a b arcs = event_line a no_arcs ∷ event_line b arcs ∷ []

-- before them a notice of the first one in the hart of the second
abbrev pub told_of_first : Event → Event → List Line
told_of_first a b = notice_line b.hart a.hart 1 ∷ event_line a no_arcs ∷ event_line b no_arcs ∷ []

-- between them a notice of the second one in the hart of the first
abbrev pub told_of_second : Event → Event → List Line
told_of_second a b = event_line a no_arcs ∷ notice_line a.hart b.hart 1 ∷ event_line b no_arcs ∷ []

abbrev pub AllOrdered : ℕ → List Line → Type 0
AllOrdered size lines = AreOrdered size lines (length lines)

-- without an arc the events are not ordered, and with one they are
abbrev pub NeedsArc : ℕ → Event → Event → Type 0
NeedsArc size a b = (AllOrdered size (two a b no_arcs) → ⊥) × AllOrdered size (two a b (arc_from a.hart))

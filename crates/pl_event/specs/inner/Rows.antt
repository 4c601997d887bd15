-- A line as it is kept: its record, and the slot of its arcs.
use Rattle.std.specs.Prelude.{ℕ, ◌≤◌, List, ◌∷◌, Option, slice_index_or, map, length, All}
use Rattle.pl_event.specs.declared.log.Line.{Line}
use Rattle.pl_event.specs.declared.lines.Row.{Row}
use Rattle.pl_event.specs.Edges.{no_arcs}

-- slot 0 is for no arcs, and slot k + 1 for item k of the list
abbrev pub arcs_at : List (List (Option ℕ)) → ℕ → List (Option ℕ)
arcs_at arcs slot = slice_index_or (no_arcs ∷ arcs) slot no_arcs

abbrev pub line_from : List (List (Option ℕ)) → Row → Line
line_from arcs row = record { what = row.what; arcs = arcs_at arcs row.slot }

abbrev pub lines_from : List (List (Option ℕ)) → List Row → List Line
lines_from arcs rows = map (line_from arcs) rows

-- each row's arcs are there
abbrev pub AreKept : List (List (Option ℕ)) → List Row → Type 0
AreKept arcs rows = All (λ row. row.slot ≤ length arcs) rows

-- What a worker keeps of the records that it is fed.
use Rattle.std.specs.Prelude.{ℕ, ◌≤◌, List, ◌∷◌, Option, Some, None, slice_index_or, map, length, All}
use Rattle.pl_event.specs.declared.fed.Fed.{Fed}
use Rattle.pl_event.specs.Edges.{no_arcs}
use Rattle.lifeguard_worker.specs.declared.rows.Entry.{Entry}
use Rattle.lifeguard_worker.specs.declared.rows.Row.{Row}

-- a record as it is taken, and what it needs of other harts
pub record Item : Type 0 where
  pub entry : Entry
  pub needs : List (Option ℕ)

-- what a worker uses of a fed line: all but its arcs
abbrev pub entry_of : Fed → Entry
entry_of fed = record { what = fed.line.what; place = fed.place; event_number = fed.event_number }

abbrev pub item_of : Fed → Item
item_of fed = record { entry = entry_of fed; needs = fed.needs }

-- what is needed, if anything
abbrev pub needs_in : Option (List (Option ℕ)) → List (Option ℕ)
needs_in None = no_arcs
needs_in (Some needs) = needs

-- slot 0 is for no needs, and slot k + 1 for item k of the list
abbrev pub needs_at : List (List (Option ℕ)) → ℕ → List (Option ℕ)
needs_at needs slot = slice_index_or (no_arcs ∷ needs) slot no_arcs

abbrev pub item_with : List (Option ℕ) → Row → Item
item_with needs row = record { entry = row.entry; needs = needs }

abbrev pub items_in : List (List (Option ℕ)) → List Row → List Item
items_in needs rows = map (λ row. item_with (needs_at needs row.slot) row) rows

-- each row's needs are there
abbrev pub AreNeeded : List (List (Option ℕ)) → List Row → Type 0
AreNeeded needs rows = All (λ row. row.slot ≤ length needs) rows

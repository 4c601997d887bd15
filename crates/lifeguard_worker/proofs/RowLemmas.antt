-- A record of a list, and what it needs.
use Rattle.std.proofs.Common.{◌≡◌, ℕ, suc, ◌-◌, ◌<◌, ◌≤◌, List, Option, Some, length, get_or, sym, ap, ◌∙◌, arith}
use Rattle.std.specs.Prelude.{slice_get}
use Rattle.std.specs.Option.{option_map}
use Rattle.std.proofs.lemmas.List.{get_or_default, length-map}
use Rattle.std.proofs.lemmas.Option.{slice_get-get_or, slice_get-map}
use Rattle.pl_event.specs.Edges.{no_arcs}
use Rattle.lifeguard_worker.specs.declared.rows.Row.{Row}
use Rattle.lifeguard_worker.specs.Rows.{Item, item_with, items_in, needs_at}

pub item_within : (needs : List (List (Option ℕ))) (rows : List Row) (i : ℕ) → i < length (items_in needs rows) → i < length rows
item_within needs rows i lt = let f : Row → Item = λ r. item_with (needs_at needs r.slot) r in omega (arith, lt, length-map rows f)

module _ (needs : List (List (Option ℕ))) (rows : List Row) (i : ℕ) (row : Row) (lt : i < length (items_in needs rows)) (is : row ≡ get_or rows i row) where
  pub item_there : slice_get (items_in needs rows) i ≡ Some (item_with (needs_at needs row.slot) row)
  item_there =
      let f : Row → Item = λ r. item_with (needs_at needs r.slot) r in
      slice_get-map f rows i
      ∙ ap (λ (o : Option Row). option_map f o) (slice_get-get_or rows i row (item_within needs rows i lt) ∙ ap (λ (r : Row). Some r) (sym is))

  -- the needs of a slot
  pub needs_there : (found : List (Option ℕ)) → (row.slot ≡ 0 → ⊥) → row.slot ≤ length needs → found ≡ get_or needs (row.slot - 1) found → needs_at needs row.slot ≡ found
  needs_there found some inside found_is =
      let next : row.slot ≡ suc (row.slot - 1) = omega arith in
      ap (λ (s : ℕ). needs_at needs s) next ∙ (get_or_default needs (row.slot - 1) no_arcs found (omega arith) ∙ sym found_is)

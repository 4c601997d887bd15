-- What is added to the operations of a record.
use Rattle.std.specs.Prelude.{◌≡◌, ℕ, List, ◌++◌, slice_index}
use Rattle.order_core.specs.Shapes.{Shape, fill, after_shapes}
use Rattle.list_plan.specs.declared.filler.Filler.{Filler}

abbrev pub words_of : Filler → (ℕ → ℕ)
words_of filler = slice_index filler.words.items

-- the operations are added, filled from the words as they were, and are made on the words
pub record Fills (old new : Filler) (ss : List Shape) : Type 0 where
  pub words : words_of new ≡ after_shapes (words_of old) ss
  pub operations : new.operations.items ≡ old.operations.items ++ fill (words_of old) ss

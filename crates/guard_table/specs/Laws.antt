-- What the word steps of the table do to the state of the core that words and views represent.
use Rattle.std.specs.Prelude.{◌≡◌, ℕ, [], ◌∷◌, ◌++◌, slice_set, slice_index}
use Rattle.atomic_table.specs.Table.{opening}
use Rattle.order_core.specs.declared.course.Course.{Course}
use Rattle.order_core.specs.declared.course.Operation.{Operation}
use Rattle.order_core.specs.declared.steps.Act.{Act}
use Rattle.order_core.specs.Core.{Core}
use Rattle.order_core.specs.Runs.{Makes}
use Rattle.guard_table.specs.declared.put.Put.{Put}
use Rattle.guard_table.specs.declared.view.View.{View}
use Rattle.guard_table.specs.declared.view.Role.TheVariants.{OfHead, OfHart, OfNote}
use Rattle.guard_table.specs.Views.{first_view, spent_view, HasEight, wrote}
use Rattle.guard_table.specs.Rule.{Table, HasView, Represents}
use Rattle.guard_table.specs.Puts.{after_put}

-- a table of a run's opening words, whose one seat is the head
abbrev pub opening_table : Course → Table
opening_table c = opening c.opening [] (first_view c)

-- the seat steps on word i, which then holds n, and its view becomes v
abbrev pub after_step : Table → ℕ → ℕ → ℕ → View → Table
after_step s id i n v = record { words = slice_set s.words i n; homes = s.homes; views = slice_set s.views id v }

-- the seat writes: its word is put, and its view v counts one more
abbrev pub after_writing : Table → ℕ → View → Operation → Put → Table
after_writing s id v a put = after_step s id a.what.word (after_put put (slice_index s.words a.what.word)) (wrote v)

-- the seat is split: its view becomes v, and the new seat's is w
abbrev pub after_split : Table → ℕ → View → View → Table
after_split s id v w = record { words = s.words; homes = s.homes; views = slice_set s.views id v ++ w ∷ [] }

-- another seat is joined into the seat, whose view becomes v
abbrev pub after_join : Table → ℕ → View → ℕ → Table
after_join s id v other = record {
  words = s.words;
  homes = s.homes;
  views = slice_set (slice_set s.views id v) other spent_view;
}

-- the seat is the head's, a hart's or a note's, and has this view
abbrev pub IsHeadAt : Table → ℕ → View → Type 0
IsHeadAt s id v = HasView s id v × (v.role ≡ OfHead)

abbrev pub IsHartAt : Table → ℕ → View → Type 0
IsHartAt s id v = HasView s id v × (v.role ≡ OfHart) × HasEight v

abbrev pub IsNoteAt : Table → ℕ → View → Type 0
IsNoteAt s id v = HasView s id v × (v.role ≡ OfNote)

-- from each state that s represents, hart h comes by this step to a state that s' represents
abbrev pub IsCoreStep : Course → Table → ℕ → Act → Table → Type 0
IsCoreStep c s h act s' = (k : Core) → Represents c k s → (k' : Core) × Makes c k h act k' × Represents c k' s'

-- s' represents each state that s represents
abbrev pub KeepsCore : Course → Table → Table → Type 0
KeepsCore c s s' = (k : Core) → Represents c k s → Represents c k s'

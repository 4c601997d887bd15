-- What happens within a turn.
use Rattle.std.specs.Prelude.{◌≡◌, ℕ, ◌<◌, ◌≤◌, List, Option, Some, None, slice_index, slice_index_or}
use Rattle.pl_base.specs.declared.layout.TheConstants.{MAX_HARTS}
use Rattle.guard_table.specs.declared.view.View.{View}
use Rattle.lifeguard_worker.specs.declared.needs.Short.{Short}

-- the seat has looked at other harts, and nothing else
pub record HasLooked (v w : View) : Type 0 where
  pub same : w ≡ record v { seen = w.seen; looks = w.looks }
  pub seen : (u : ℕ) → slice_index v.seen u ≤ slice_index w.seen u
  pub looks : (u : ℕ) → slice_index v.looks u ≤ slice_index w.looks u

-- of each hart below u the seat has seen what is needed of it
abbrev pub HasSeenBelow : List (Option ℕ) → View → ℕ → Type 0
HasSeenBelow needs w u = (t need : ℕ) → t < u → slice_index_or needs t None ≡ Some need → need ≤ slice_index w.seen t

-- more is needed of this hart than a look there has just found, which is not below what was learnt of it, and of no
-- lower hart
pub record IsShort (needs : List (Option ℕ)) (v w : View) (short : Short) : Type 0 where
  pub inside : short.hart < MAX_HARTS
  pub need : slice_index_or needs short.hart None ≡ Some short.need
  pub unseen : short.seen < short.need
  pub loaded : slice_index w.seen short.hart ≡ short.seen
  pub looked : slice_index v.looks short.hart < slice_index w.looks short.hart
  pub learnt : slice_index w.learnt short.hart ≤ short.seen
  pub lowest : HasSeenBelow needs w short.hart

-- The state of the core that a run comes to.
use Rattle.std.specs.Prelude.{ℕ, List, [], length, slice_index, slice_index_or}
use Rattle.order_core.specs.declared.state.HartState.{HartState}
use Rattle.order_core.specs.declared.state.CoreState.{CoreState}
use Rattle.order_core.specs.Core.{Core}

-- what is read of a hart that is not there
abbrev pub idle : HartState
idle = record { progress = 0; written = 0; next = record { number = 0; op = 0 }; met = 0; seen = [] }

abbrev pub hart_in : List HartState → ℕ → HartState
hart_in harts h = slice_index_or harts h idle

-- the state of the core that is kept
abbrev pub core_in : List HartState → List ℕ → Core
core_in harts words = record {
  written = λ h. (hart_in harts h).written;
  progress = λ h. (hart_in harts h).progress;
  seen = λ h u. slice_index (hart_in harts h).seen u;
  word = λ w. slice_index words w;
}

abbrev pub core_of : CoreState → Core
core_of s = core_in s.harts s.words.items

abbrev pub cursor_of : CoreState → ℕ → ℕ
cursor_of s h = slice_index s.cursors h

abbrev pub word_count : CoreState → ℕ
word_count s = length s.words.items

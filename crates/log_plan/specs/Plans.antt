-- The plan of a log under the rules of a lifeguard.
use Rattle.std.specs.Prelude.{◌≡◌, ℕ, zero, suc, ◌^◌, ◌<◌, ◌≤◌, List, [], ◌∷◌, length}
use Rattle.pl_base.specs.declared.layout.TheConstants.{LANES}
use Rattle.pl_event.specs.declared.log.Log.{Log}
use Rattle.pl_event.specs.declared.log.PageRun.{PageRun}
use Rattle.lifeguard.specs.Rules.{Rules}
use Rattle.order_core.specs.declared.course.Course.{Course}
use Rattle.order_core.specs.declared.course.TheConstants.{FIRST_WORD}
use Rattle.order_core.specs.Lanes.{lane}
use Rattle.order_core.specs.Course.{Planned, last_lane}
use Rattle.order_core.specs.Filled.{filled_plan}
use Rattle.shadow_frames.specs.declared.words.TheConstants.{TABLE_WORDS}
use Rattle.shadow_frames.specs.Opening.{opening_words}
use Rattle.shadow_layout.specs.Logs.{log_shapes}

-- n words from number `first` on, as a list
unfoldable pub words_from : (ℕ → ℕ) → ℕ → ℕ → List ℕ
words_from w first zero = []
words_from w first (suc n) = w first ∷ words_from w (suc first) n

-- the opening words of the table, as a list
unfoldable pub opening_list : Rules → List PageRun → List ℕ
opening_list rules pages = words_from (opening_words rules.page_state pages) 0 TABLE_WORDS

-- the opening words of the log's pages, and for each record its event's operations, filled from the words before it
abbrev pub plan_of : Rules → Log → Planned
plan_of rules log = filled_plan (log_shapes rules log) log (opening_list rules log.pages)

-- the words that operations may name are below 2^64, and are as the sequential run leaves them
pub record AreFinalWords (c : Course) (words : ℕ → ℕ) : Type 0 where
  pub small : (w : ℕ) → FIRST_WORD ≤ w → w < length c.opening → words w < 2 ^ 64
  pub lanes : (w j : ℕ) → FIRST_WORD ≤ w → w < length c.opening → j < LANES → lane j (words w) ≡ last_lane c w j

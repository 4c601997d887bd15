-- The words: the events that are asked for.
use Rattle.std.specs.Prelude.{◌≡◌, ℕ, ◌<◌, ◌≤◌, ◌^◌, List, [], ◌∷◌, All, length}
use Rattle.std.specs.Fmt.{decimal}
use Rattle.std.specs.List.{flat_map}
use Rattle.pl_base.specs.declared.layout.TheConstants.{MAX_HARTS}
use Rattle.whence_trail.specs.declared.trail.Pair.{Pair}
use Rattle.whence_top.specs.declared.asked.TheConstants.{MAX_PAIRS}

-- a hart that there may be, and a number that an event may have
pub record MayAsk (pair : Pair) : Type 0 where
  pub hart : pair.hart < MAX_HARTS
  pub some : 1 ≤ pair.number
  pub low : pair.number < 2 ^ 32

-- each event by two words, its hart and its number
abbrev pub words_of : List Pair → List (List ℕ)
words_of pairs = flat_map (λ pair. decimal pair.hart ∷ decimal pair.number ∷ []) pairs

-- the words name these events, in this order, and there are 1 to 8
pub record AsksFor (words : List (List ℕ)) (pairs : List Pair) : Type 0 where
  pub some : 1 ≤ length pairs
  pub few : length pairs ≤ MAX_PAIRS
  pub each : All MayAsk pairs
  pub spelled : words ≡ words_of pairs

abbrev pub AsksForNone : List (List ℕ) → Type 0
AsksForNone words = (pairs : List Pair) → AsksFor words pairs → ⊥

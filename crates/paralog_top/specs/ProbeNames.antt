-- The probes that the words name.
use Rattle.std.specs.Prelude.{◌≡◌, ℕ, ◌≤◌, Bool, true, not, ◌&&◌, IsTrue, List, [], ◌∷◌, All, length, map, Option, Some}
use Rattle.std.specs.Prelude.{bytes_eq, slice_index_or}
use Rattle.std.specs.List.{list_any, position_from}
use Rattle.replay_probes.specs.Meaning.{Meaning}

-- a name means the first probe that has it
abbrev pub place_named : List Meaning → List ℕ → Option ℕ
place_named meanings name = position_from (λ meaning. bytes_eq meaning.name name) 0 meanings

-- the name of the probe at a place
abbrev pub name_at : List Meaning → ℕ → List ℕ
name_at meanings place = slice_index_or (map (λ meaning. meaning.name) meanings) place []

abbrev pub names_at : List Meaning → List ℕ → List (List ℕ)
names_at meanings places = map (name_at meanings) places

-- the probe at a place is the first of its name
abbrev pub IsFirst : List Meaning → ℕ → Type 0
IsFirst meanings place = place_named meanings (name_at meanings place) ≡ Some place

-- no name comes twice
abbrev pub are_different : List (List ℕ) → Bool
are_different [] = true
are_different (name ∷ names) = not (list_any (λ other. bytes_eq other name) names) && are_different names

-- the places of 1 to 8 probes of different names, each the first of its name
pub record AreChosen (meanings : List Meaning) (places : List ℕ) : Type 0 where
  pub some : 1 ≤ length places
  pub few : length places ≤ 8
  pub different : IsTrue (are_different (names_at meanings places))
  pub first : All (IsFirst meanings) places

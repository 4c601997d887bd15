-- The harts of a run, and which of them are live.
use Rattle.std.specs.Prelude.{ℕ, ◌+◌, ◌==◌, Bool, true, false, if◌then◌else◌, List, [], ◌∷◌}
use Rattle.std.specs.List.{list_any}
use Rattle.core_sim.specs.declared.hart.HartEnd.{HartEnd}
use Rattle.core_sim.specs.declared.hart.HartEnd.TheVariants.{Live, Exit, Fault}
use Rattle.core_sim.specs.declared.hart.Standing.{Standing}

abbrev pub is_live : HartEnd → Bool
is_live Live = true
is_live (Exit code) = false
is_live (Fault cause addr) = false

-- the numbers of the live harts, rising, where the first of these harts has that number
abbrev pub live_from : ℕ → List Standing → List ℕ
live_from first [] = []
live_from first (hart ∷ harts) =
    if is_live hart.end then (first ∷ live_from (first + 1) harts) else live_from (first + 1) harts

abbrev pub live_harts : List Standing → List ℕ
live_harts = live_from 0

-- a hart is one of the live ones
abbrev pub is_among_live : List ℕ → ℕ → Bool
is_among_live live hart = list_any (λ other. other == hart) live

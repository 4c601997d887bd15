-- The checks and the misses of a log's harts, as a text.
use Rattle.std.specs.Prelude.{ℕ, List, ◌∷◌, ◌++◌, [], codes}
use Rattle.std.specs.List.{flat_map}
use Rattle.std.specs.Fmt.{decimal}
use Rattle.pl_event.specs.declared.log.Log.{Log}
use Rattle.lifeguard.specs.declared.guard.Name.{Name}
use Rattle.lifeguard.specs.Words.{guard_word}
use Rattle.lifeguard.specs.Rules.{Rules}
use Rattle.lifeguard.specs.State.{span}
use Rattle.turn_worker.specs.Results.{checks_of}
use Rattle.log_watch.specs.Watched.{misses_of}

-- a hart, with how many checks its records have and how many of them miss
abbrev pub hart_counts : ℕ → ℕ → ℕ → List ℕ
hart_counts hart checks misses =
    104 ∷ decimal hart ++ codes " checks " ++ decimal checks ++ codes " misses " ++ decimal misses ++ 10 ∷ []

-- the lifeguard and the number of harts
abbrev pub head_counts : Name → ℕ → List ℕ
head_counts name harts = codes "PCNT 1 " ++ guard_word name ++ codes " harts " ++ decimal harts ++ 10 ∷ []

-- the checks and misses of a hart of a log
abbrev pub counts_on : Rules → Log → ℕ → List ℕ
counts_on rules log hart = hart_counts hart (checks_of rules hart log.lines) (misses_of rules log hart)

-- the whole text: all harts, in order
abbrev pub log_counts : Rules → Log → List ℕ
log_counts rules log =
    head_counts rules.name log.harts ++ flat_map (counts_on rules log) (span 0 log.harts) ++ codes "end\n"

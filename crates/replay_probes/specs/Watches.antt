-- What the probes of a run will tell in the end.
use Rattle.std.specs.Prelude.{◌≡◌, ℕ, List, [], ◌∷◌}
use Rattle.replay_probes.specs.declared.probe.Shown.{Shown}
use Rattle.replay_probes.specs.declared.watch.Watch.{Watch}
use Rattle.replay_probes.specs.declared.watch.Watch.TheVariants.{On, Off}
use Rattle.replay_probes.specs.Meaning.{Meaning, line_behind}

-- a line for each list of further events
abbrev pub Telling : Type 0
Telling = List Shown → List ℕ

module _ {B : Type 0} (meaning : B → Meaning) (has_seen : B → List Shown → Type 0) where
  -- the probe has seen some events, and tells this line after them
  pub record WillTellOf (tells : Telling) (probe : B) : Type 0 where
    pub seen : List Shown
    pub has : has_seen probe seen
    pub told : (further : List Shown) → tells further ≡ line_behind (meaning probe) seen further

  -- a probe that stopped tells its line, whatever comes
  abbrev pub WillTell : Telling → Watch B → Type 0
  WillTell tells (On probe) = WillTellOf tells probe
  WillTell tells (Off line) = (further : List Shown) → tells further ≡ line.items

  -- an event was shown: it tells for any further events what it told for this one before them
  abbrev pub IsShown : Shown → Watch B → Watch B → Type 0
  IsShown shown old new = (tells : Telling) → WillTell tells old → WillTell (λ further. tells (shown ∷ further)) new

  -- no event comes any more, and this is the line
  abbrev pub IsLineOf : Watch B → List ℕ → Type 0
  IsLineOf watch line = (tells : Telling) → WillTell tells watch → line ≡ tells []

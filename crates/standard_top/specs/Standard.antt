-- The probes that the program hands in.
use Rattle.std.specs.Prelude.{List, [], ◌∷◌}
use Rattle.replay_probes.specs.Meaning.{Meaning}
use Rattle.standard_probes.specs.Probes.{kinds_meaning, harts_meaning, bytes_meaning, alert_meaning}

-- in the order in which they are handed in
abbrev pub standard_meanings : List Meaning
standard_meanings = kinds_meaning ∷ harts_meaning ∷ bytes_meaning ∷ alert_meaning ∷ []

-- What is asked of each byte of a range.
use Rattle.std.specs.Prelude.{ℕ, Bool}
use Rattle.lifeguard.specs.declared.cells.Check.{Check}
use Rattle.lifeguard.specs.declared.cells.Check.TheVariants.{Access, Value}
use Rattle.lifeguard.specs.Rules.{Rules}

-- whether a nibble fails the check
abbrev pub is_bad : Rules → Check → ℕ → Bool
is_bad rules Access nibble = rules.bad_access nibble
is_bad rules Value nibble = rules.bad_value nibble

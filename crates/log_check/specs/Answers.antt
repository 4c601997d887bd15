-- What a check answers where a log is not shown to be ordered.
use Rattle.std.specs.Prelude.{◌≡◌, ℕ}
use Rattle.pl_event.specs.declared.event.Event.{Event}
use Rattle.pl_event.specs.declared.log.Log.{Log}
use Rattle.pl_event.specs.declared.log.Point.{Point}
use Rattle.pl_event.specs.Unordered.{IsFirstUnordered}
use Rattle.log_check.specs.declared.ordered.CheckRefused.{CheckRefused}
use Rattle.log_check.specs.declared.ordered.CheckRefused.TheVariants as refused

-- the points are those of the first pair that is not ordered
pub record NamesFirst (log : Log) (earlier later : Point) : Type 0 where
  pub i : ℕ
  pub j : ℕ
  pub a : Event
  pub b : Event
  pub pair : IsFirstUnordered log i j a earlier.number b later.number
  pub first : a.hart ≡ earlier.hart
  pub second : b.hart ≡ later.hart

-- the log is returned, and where it is unordered the first such pair is named
abbrev pub IsRefused : Log → CheckRefused → Type 0
IsRefused log (refused.Unordered earlier later given) = (given ≡ log) × NamesFirst log earlier later
IsRefused log (refused.NoMemory given) = given ≡ log

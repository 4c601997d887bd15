-- Which bytes a loop over a source or a sink has moved by the time it stops.
use Rattle.std.specs.Prelude.{ℕ, ◌+◌, ◌<◌, ◌≤◌, List, take, length, IfSome}
use Rattle.std.specs.declared.option.Option.{Option}
use Rattle.std.specs.Io.KnownBytes.{Appends, Consumes}
use Rattle.pl_base.specs.declared.loops.TheConstants.{PIECE}
use Rattle.pl_base.specs.declared.loops.ReadEnd.{ReadEnd}
use Rattle.pl_base.specs.declared.loops.ReadEnd.TheVariants.{Fault, TooLong, NoMemory}

-- more bytes are left than the limit
abbrev pub HasMore : Option (List ℕ) → ℕ → Type 0
HasMore left limit = IfSome left (λ bytes. limit < length bytes)

-- the next bytes were taken, at least and at most this many
pub record TakesBetween (old new : Option (List ℕ)) (least most : ℕ) : Type 0 where
  pub front : List ℕ
  pub long : least ≤ length front
  pub short : length front ≤ most
  pub taken : Consumes old new front

-- past the limit by one piece at most where that was too long, and else no more than the limit
abbrev pub TakesFront : ReadEnd → Option (List ℕ) → Option (List ℕ) → ℕ → Type 0
TakesFront Fault old new limit = TakesBetween old new 0 limit
TakesFront TooLong old new limit = TakesBetween old new (limit + 1) (limit + PIECE)
TakesFront NoMemory old new limit = TakesBetween old new 0 limit

-- some prefix of the bytes was appended
pub record AppendsFront (old new : Option (List ℕ)) (bytes : List ℕ) : Type 0 where
  pub count : ℕ
  pub within : count ≤ length bytes
  pub appended : Appends old new (take count bytes)

-- some prefix of the bytes was appended, and not all of them
pub record AppendsLess (old new : Option (List ℕ)) (bytes : List ℕ) : Type 0 where
  pub count : ℕ
  pub less : count < length bytes
  pub appended : Appends old new (take count bytes)

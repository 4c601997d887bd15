-- What is at hand of a source that is read line by line.
use Rattle.std.specs.Prelude.{◌≡◌, ◌≢◌, ◌==◌, Bool, true, false, ℕ, ◌+◌, ◌<◌, ◌≤◌, List, [], ◌∷◌, ◌++◌, length}
use Rattle.std.specs.declared.option.Option.{Option}
use Rattle.std.specs.Io.KnownBytes.{Consumes, IsAtEnd}
use Rattle.pl_base.specs.declared.line_buffer.Held.{Held}
use Rattle.pl_base.specs.declared.loops.ReadEnd.{ReadEnd}
use Rattle.pl_base.specs.declared.loops.ReadEnd.TheVariants.{TooLong}
use Rattle.pl_base.specs.Held.{front_of, begun_of, HasNoLineFeed, IsOrdered}

-- what is at hand of a source: whole lines, or at its end all that is left; the bytes of a line begun after them;
-- how many more bytes may come; and whether the source is at its end
pub record Window : Type 0 where
  pub front : List ℕ
  pub begun : List ℕ
  pub spare : ℕ
  pub ended : Bool

-- the last byte is a line feed, where there is one
abbrev pub ends_line : List ℕ → Bool
ends_line [] = true
ends_line (byte ∷ []) = byte == 10
ends_line (byte ∷ next ∷ rest) = ends_line (next ∷ rest)

-- the places are in order, whole lines are at hand as long as the source is not at its end, and no line ends in what
-- is begun
pub record IsSound (held : Held) (ended : Bool) : Type 0 where
  pub ordered : IsOrdered held
  pub lines : ended ≡ false → ends_line (front_of held) ≡ true
  pub begun : HasNoLineFeed (begun_of held)

-- bytes were read, and follow the line begun
pub record Reads (old new : Option (List ℕ)) (before after : Window) : Type 0 where
  pub bytes : List ℕ
  pub taken : Consumes old new bytes
  pub joined : after.front ++ after.begun ≡ before.begun ++ bytes
  pub counted : after.spare + length bytes ≡ before.spare

-- what filling reads: bytes that follow the line begun, until a line is whole or the source is at its end; each whole
-- line is at hand then
pub record Fills (old new : Option (List ℕ)) (before after : Window) : Type 0 where
  pub bytes : List ℕ
  pub taken : Consumes old new bytes
  pub joined : after.front ++ after.begun ≡ before.begun ++ bytes
  pub counted : after.spare + length bytes ≡ before.spare
  pub last : after.ended ≡ true → (after.begun ≡ []) × IsAtEnd new
  pub whole : after.ended ≡ false → (0 < length after.front) × (ends_line after.front ≡ true)
  pub none_held : HasNoLineFeed after.begun

-- how filling stops at an error: nothing is at hand, and the source is not at its end; what was read follows the line
-- begun, but not what came past the limit
pub record Stops (end : ReadEnd) (old new : Option (List ℕ)) (before after : Window) : Type 0 where
  pub empty : after.front ≡ []
  pub going : after.ended ≡ false
  pub reads : end ≢ TooLong → Reads old new before after

-- the rest of a source was read, and let go
pub record Skips (old new : Option (List ℕ)) (most : ℕ) : Type 0 where
  pub bytes : List ℕ
  pub taken : Consumes old new bytes
  pub few : length bytes ≤ most
  pub last : IsAtEnd new

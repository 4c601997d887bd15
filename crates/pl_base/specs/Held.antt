-- Bytes in one buffer: those at hand, those begun after them, and room.
use Rattle.std.specs.Prelude.{◌≡◌, ◌≢◌, ℕ, ◌+◌, ◌≤◌, List, vec_len, All}
use Rattle.std.specs.List.{slice_range}
use Rattle.pl_base.specs.declared.line_buffer.Held.{Held}

-- the bytes at hand
abbrev pub front_of : Held → List ℕ
front_of held = slice_range held.bytes.items held.start held.whole

-- the bytes begun after them
abbrev pub begun_of : Held → List ℕ
begun_of held = slice_range held.bytes.items held.whole held.end

-- the first bytes of the room after them, so many of them
abbrev pub next_of : Held → ℕ → List ℕ
next_of held count = slice_range held.bytes.items held.end (held.end + count)

-- no line ends in these bytes
abbrev pub HasNoLineFeed : List ℕ → Type 0
HasNoLineFeed bytes = All (λ byte. byte ≢ 10) bytes

-- the places are in their order within the buffer, which is never small
pub record IsOrdered (held : Held) : Type 0 where
  pub start : held.start ≤ held.whole
  pub whole : held.whole ≤ held.end
  pub end : held.end ≤ vec_len held.bytes
  pub long : 64 ≤ vec_len held.bytes

-- the places are as they were
pub record HasSamePlaces (old new : Held) : Type 0 where
  pub start : new.start ≡ old.start
  pub whole : new.whole ≡ old.whole
  pub end : new.end ≡ old.end
  pub long : vec_len new.bytes ≡ vec_len old.bytes

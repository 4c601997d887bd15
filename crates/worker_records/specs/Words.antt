-- What a word tells of the bytes of an access.
use Rattle.std.specs.Prelude.{◌≡◌, ℕ, ◌+◌, ◌%◌, ◌<◌}
use Rattle.pl_base.specs.declared.layout.TheConstants.{BLOCK_BYTES}
use Rattle.lifeguard.specs.State.{Bytes, nibble_at}
use Rattle.shadow_frames.specs.Words.{nibble_of}

-- the bytes have the nibbles of the word, which are below 8
abbrev pub TellsOf : ℕ → Bytes → ℕ → ℕ → Type 0
TellsOf word bytes addr len = (i : ℕ) → i < len
    → (nibble_at bytes (addr + i) ≡ nibble_of word (addr % BLOCK_BYTES + i))
    × (nibble_of word (addr % BLOCK_BYTES + i) < 8)

-- the nibbles of so many bytes from addr on are below 8
abbrev pub HasLowNibbles : ℕ → ℕ → ℕ → Type 0
HasLowNibbles word addr len = (i : ℕ) → i < len → nibble_of word (addr % BLOCK_BYTES + i) < 8

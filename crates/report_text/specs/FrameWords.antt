-- The shadow word of an address.
use Rattle.std.specs.Prelude.{◌≡◌, ℕ, zero, suc, ◌+◌, ◌/◌, ◌%◌, ◌<◌, ◌≤◌, Option, Some, None}
use Rattle.pl_base.specs.declared.layout.TheConstants.{BLOCK_BYTES, PAGE_BYTES}
use Rattle.shadow_frames.specs.Words.{directory_word, nibble_of, shadow_word}

abbrev pub mapped_word_in : (ℕ → ℕ) → ℕ → ℕ → Option ℕ
mapped_word_in w addr zero = None
mapped_word_in w addr (suc d) = Some (w (shadow_word (suc d) addr))

-- the shadow word of an address, or none where its page is not mapped
abbrev pub mapped_word : (ℕ → ℕ) → ℕ → Option ℕ
mapped_word w addr = mapped_word_in w addr (w (directory_word (addr / PAGE_BYTES)))

-- so many bytes from an address on are of its page; where it is mapped they are of its block and have its nibble
abbrev pub IsAlikeFor : Option ℕ → ℕ → ℕ → Type 0
IsAlikeFor None addr n = addr % PAGE_BYTES + n ≤ PAGE_BYTES
IsAlikeFor (Some word) addr n = (addr % BLOCK_BYTES + n ≤ BLOCK_BYTES)
    × ((i : ℕ) → i < n → nibble_of word (addr % BLOCK_BYTES + i) ≡ nibble_of word (addr % BLOCK_BYTES))

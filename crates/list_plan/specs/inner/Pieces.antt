-- Parts of what mapping a page does.
use Rattle.std.specs.Prelude.{ℕ, ◌+◌, ◌%◌, ◌^◌, List, [], ◌∷◌}
use Rattle.order_core.specs.Shapes.{Shape}
use Rattle.shadow_frames.specs.declared.words.TheConstants.{FRAME_WORDS}
use Rattle.shadow_frames.specs.Words.{directory_word, frame_word, map_word}
use Rattle.shadow_frames.specs.Frames.{fills, reads, writes}

-- one word is read
unfoldable pub word_read : (ℕ → ℕ) → ℕ → List Shape
word_read w word = reads word ∷ []

-- one word is written with a value
unfoldable pub word_filled : ℕ → (ℕ → ℕ) → ℕ → List Shape
word_filled value w word = writes word (λ _. value) ∷ []

-- page p gets frame f, whose words are filled
abbrev pub placed : ℕ → ℕ → ℕ → List Shape
placed f p filling = writes (map_word f) (λ v. v + 2 ^ (f % 64)) ∷ writes (directory_word p) (λ _. f + 1)
    ∷ fills (frame_word f) filling FRAME_WORDS

-- The operations of a page that gets a frame: reads of the frame map, then writes.
use Rattle.std.specs.Prelude.{ℕ, zero, suc, ◌+◌, ◌%◌, ◌^◌, List, [], ◌∷◌}
use Rattle.order_core.specs.Shapes.{Shape}
use Rattle.shadow_frames.specs.declared.words.TheConstants.{FRAME_WORDS}
use Rattle.shadow_frames.specs.Frames.{fills, reads, writes}
use Rattle.shadow_frames.specs.Words.{directory_word, frame_word, map_word}

-- reads of so many words from the first one on
abbrev pub reads_from : ℕ → ℕ → List Shape
reads_from first zero = []
reads_from first (suc n) = reads first ∷ reads_from (suc first) n

-- frame f is marked in the frame map and put into the directory for page p, and its words are filled
abbrev pub place_shapes : ℕ → ℕ → ℕ → List Shape
place_shapes f p filling = writes (map_word f) (λ v. v + 2 ^ (f % 64)) ∷ writes (directory_word p) (λ _. f + 1)
    ∷ fills (frame_word f) filling FRAME_WORDS

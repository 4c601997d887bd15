-- The answers to pairs of a hart and an event number.
use Rattle.std.specs.Prelude.{◌≡◌, ℕ, ◌<◌, ◌==◌, ◌&&◌, Bool, List, [], ◌∷◌, map, slice_index, length, Option, Some, None, if◌then◌else◌}
use Rattle.whence_trail.specs.declared.block.Block.{Block}
use Rattle.whence_trail.specs.declared.happening.Happening.{Happening}
use Rattle.whence_trail.specs.declared.trail.Answer.{Answer}
use Rattle.whence_trail.specs.declared.trail.Found.{Found}
use Rattle.whence_trail.specs.declared.trail.Pair.{Pair}
use Rattle.whence_trail.specs.declared.trail.Trail.{Trail}
use Rattle.whence_trail.specs.Blocks.{holder, latest_in}
use Rattle.whence_trail.specs.Happenings.{events_of_hart}
use Rattle.whence_trail.specs.Nearness.{found_by}

-- the event is the one of the pair
abbrev pub is_of : Pair → Happening → Bool
is_of pair x = (x.origin.hart == pair.hart) && (x.origin.number == pair.number)

-- what is found at the event of a pair, by what was before it
abbrev pub found_of : List Happening → Pair → Option Found
found_of [] pair = None
found_of (x ∷ before) pair = if is_of pair x then Some (found_by (holder before) x) else found_of before pair

abbrev pub answer_of : List Happening → Pair → Answer
answer_of happenings pair = record { pair = pair; found = found_of happenings pair }

-- ---- step by step

abbrev pub no_answer : Pair → Answer
no_answer pair = record { pair = pair; found = None }

-- the answer after one more event, by the block that has each address before it
abbrev pub answer_after : (ℕ → Option Block) → Happening → Answer → Answer
answer_after held x answer = if is_of answer.pair x then record answer { found = Some (found_by held x) } else answer

-- what a trail keeps of the events so far
pub record Keeps (pairs : List Pair) (before : List Happening) (trail : Trail) : Type 0 where
  pub counts : (hart : ℕ) → hart < 8 → slice_index trail.counts hart ≡ events_of_hart before hart
  pub harts : length trail.counts ≡ 8
  pub blocks : (addr : ℕ) → latest_in trail.blocks.items addr ≡ holder before addr
  pub answers : trail.answers.items ≡ map (answer_of before) pairs

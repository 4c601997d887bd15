-- Operations whose values come from the words as they are.
use Rattle.std.specs.Prelude.{◌≡◌, ℕ, ◌<◌, ◌≤◌, Bool, true, false, List, [], ◌∷◌, if◌then◌else◌}
use Rattle.pl_base.specs.declared.layout.TheConstants.{LANES}
use Rattle.order_core.specs.declared.course.TheConstants.{FIRST_WORD}
use Rattle.order_core.specs.declared.course.Op.{Op}
use Rattle.order_core.specs.declared.course.Operation.{Operation}
use Rattle.order_core.specs.Lanes.{lane, covers}
use Rattle.order_core.specs.Core.{put}

-- an operation before its value is known: a read of a word, or a write of what becomes of the word
pub record Shape : Type 0 where
  pub word : ℕ
  pub lanes : ℕ
  pub write : Bool
  pub check : Bool
  pub change : ℕ → ℕ

-- with what it finds or puts, where its word holds x
abbrev pub filled_op : ℕ → Shape → Op
filled_op x s = record {
  word = s.word;
  lanes = s.lanes;
  write = s.write;
  check = s.check;
  value = if s.write then s.change x else x;
}

abbrev pub after_shape : (ℕ → ℕ) → Shape → (ℕ → ℕ)
after_shape w s = if s.write then put w s.word (s.change (w s.word)) else w

-- the operations, one after the other, from these words on
abbrev pub fill : (ℕ → ℕ) → List Shape → List Op
fill w [] = []
fill w (s ∷ ss) = filled_op (w s.word) s ∷ fill (after_shape w s) ss

abbrev pub after_shapes : (ℕ → ℕ) → List Shape → (ℕ → ℕ)
after_shapes w [] = w
after_shapes w (s ∷ ss) = after_shapes (after_shape w s) ss

-- a write leaves the lanes that it does not name
abbrev pub IsFitting : Shape → Type 0
IsFitting s = s.write ≡ true → (x j : ℕ) → j < LANES → covers s.lanes j ≡ false → lane j (s.change x) ≡ lane j x

abbrev pub AreFitting : List Shape → Type 0
AreFitting [] = Unit {0}
AreFitting (s ∷ ss) = IsFitting s × AreFitting ss

-- the operation is on a word from FIRST_WORD on of so many, names one to four lanes, and leaves the others
pub record IsSoundShape (words : ℕ) (s : Shape) : Type 0 where
  pub low : FIRST_WORD ≤ s.word
  pub high : s.word < words
  pub lanes : (1 ≤ s.lanes) × (s.lanes ≤ 15)
  pub fitting : IsFitting s

abbrev pub AreSoundShapes : ℕ → List Shape → Type 0
AreSoundShapes words [] = Unit {0}
AreSoundShapes words (s ∷ ss) = IsSoundShape words s × AreSoundShapes words ss

-- a read finds its word as it is, and a write leaves the lanes that it does not name
abbrev pub IsFilled : (ℕ → ℕ) → Operation → Type 0
IsFilled w a = (a.what.write ≡ false → a.what.value ≡ w a.what.word)
    × (a.what.write ≡ true → (j : ℕ) → j < LANES → covers a.what.lanes j ≡ false
    → lane j a.what.value ≡ lane j (w a.what.word))

abbrev pub after_operation : (ℕ → ℕ) → Operation → (ℕ → ℕ)
after_operation w a = if a.what.write then put w a.what.word a.what.value else w

-- each of the operations, in order, from these words on
abbrev pub AreFilled : (ℕ → ℕ) → List Operation → Type 0
AreFilled w [] = Unit {0}
AreFilled w (a ∷ rest) = IsFilled w a × AreFilled (after_operation w a) rest

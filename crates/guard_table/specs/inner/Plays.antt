-- What the word steps of harts tell.
use Rattle.std.specs.Prelude.{◌≡◌, ℕ, ◌-◌, ◌≤◌, slice_index}
use Rattle.atomic_table.specs.Table.{Me, Step}
use Rattle.order_core.specs.declared.course.Operation.{Operation}
use Rattle.order_core.specs.Lanes.{HasValueOf}
use Rattle.order_core.specs.Core.{IsOpen}
use Rattle.guard_table.specs.declared.view.View.{View}
use Rattle.guard_table.specs.Views.{looked, advertised, wrote, known_core}

-- a seat's view, and no slots
abbrev pub Held : Type 0
Held = Me (Unit {0}) View

-- a load of a progress word finds n, which is not below what was seen and learnt
abbrev pub IsSeen : Step (Unit {0}) → Held → ℕ → Held → Type 0
IsSeen st m n m' = (m' ≡ (looked (st.word - 1) n m.0, m.1))
    × (slice_index m.0.seen (st.word - 1) ≤ n) × (slice_index m.0.learnt (st.word - 1) ≤ n)

abbrev pub IsAdvertised : Step (Unit {0}) → Held → ℕ → Held → Type 0
IsAdvertised st m n m' = m' ≡ (advertised st.first m.0, m.1)

-- a load of another word finds n, which has the value of each read of it that is open
abbrev pub IsRead : Step (Unit {0}) → Held → ℕ → Held → Type 0
IsRead st m n m' = (m' ≡ m)
    × ((p : ℕ) (a : Operation) → IsOpen m.0.course (known_core m.0) m.0.hart p a → a.what.word ≡ st.word
    → HasValueOf a.what n)

abbrev pub IsWritten : Step (Unit {0}) → Held → ℕ → Held → Type 0
IsWritten st m n m' = m' ≡ (wrote m.0, m.1)

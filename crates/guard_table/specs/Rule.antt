-- The rule of the table: its words and the views of its seats are a consistent state of the core.
use Rattle.std.specs.Prelude.{◌≡◌, ◌≢◌, ℕ, ◌+◌, ◌<◌, ◌≤◌, length, slice_index}
use Rattle.std.specs.List.{Contains}
use mathlib.Core.Option.{some}
use lib.ListN.{get_elem?}
use Rattle.atomic_table.specs.Table.{State}
use Rattle.order_core.specs.declared.course.TheConstants.{FIRST_WORD}
use Rattle.order_core.specs.declared.course.Course.{Course}
use Rattle.order_core.specs.Lawful.{IsLawful}
use Rattle.order_core.specs.Core.{Core, IsConsistent}
use Rattle.order_core.specs.Freed.{HasEnded}
use Rattle.guard_table.specs.declared.view.View.{View}
use Rattle.guard_table.specs.declared.view.Role.TheVariants.{OfHead, OfHart, OfNote}

-- the words of a table and the views of its seats
abbrev pub Table : Type 0
Table = State (Unit {0}) View

-- a seat of the table has this view
abbrev pub HasView : Table → ℕ → View → Type 0
HasView s id v = get_elem? s.views id ≡ some v

module _ (c : Course) (k : Core) where
  -- a hart's view is as far as its hart; what it has learnt of a hart is not above that hart's progress word
  pub record IsOfHart (v : View) : Type 0 where
    pub course : v.course ≡ c
    pub hart : v.hart < c.log.harts
    pub written : k.written v.hart ≡ v.written
    pub progress : k.progress v.hart ≡ v.progress
    pub seen : (u : ℕ) → k.seen v.hart u ≡ slice_index v.seen u
    pub learnt : (u : ℕ) → slice_index v.learnt u ≤ k.progress u

  -- a note is not above the progress word of its hart
  pub record IsOfNote (v : View) : Type 0 where
    pub course : v.course ≡ c
    pub hart : v.hart < c.log.harts
    pub progress : v.progress ≤ k.progress v.hart

  -- a hart with no seat yet has done and seen nothing; one whose seat was taken back has advertised all its records
  pub record IsOfHead (v : View) : Type 0 where
    pub course : v.course ≡ c
    pub idle : (h : ℕ) → (Contains v.made h → ⊥) → (k.written h ≡ 0) × (k.progress h ≡ 0) × ((u : ℕ) → k.seen h u ≡ 0)
    pub ended : (h : ℕ) → Contains v.freed h → HasEnded c k h

  -- each view says what holds
  pub record IsTrueView (v : View) : Type 0 where
    pub head : v.role ≡ OfHead → IsOfHead v
    pub hart : v.role ≡ OfHart → IsOfHart v
    pub note : v.role ≡ OfNote → IsOfNote v

-- of any two seats: one is the head at most, they are of different harts, and the head knows of the seat of a hart
pub record AreApart (v w : View) : Type 0 where
  pub heads : v.role ≡ OfHead → w.role ≡ OfHead → ⊥
  pub harts : v.role ≡ OfHart → w.role ≡ OfHart → v.hart ≢ w.hart
  pub made : v.role ≡ OfHart → w.role ≡ OfHead → Contains w.made v.hart

-- the words and the views represent this state of the core
pub record Represents (c : Course) (k : Core) (s : Table) : Type 0 where
  pub consistent : IsConsistent c k
  pub size : length s.words ≡ length c.opening
  pub progress : (h : ℕ) → h < c.log.harts → slice_index s.words (h + 1) ≡ k.progress h
  pub words : (w : ℕ) → FIRST_WORD ≤ w → w < length c.opening → slice_index s.words w ≡ k.word w
  pub each : (i : ℕ) (v : View) → HasView s i v → IsTrueView c k v
  pub apart : (i j : ℕ) (v w : View) → HasView s i v → HasView s j w → i ≢ j → AreApart v w

-- the rule: at every moment between two word steps the words and the views represent a consistent state of the core
pub record HoldsCore (c : Course) (s : Table) : Type 0 where
  pub lawful : ∥ IsLawful c ∥₁
  pub core : Core
  pub represented : Represents c core s

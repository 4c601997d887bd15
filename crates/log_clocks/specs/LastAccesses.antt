-- What a table of last accesses tells.
use Rattle.std.specs.Prelude.{◌≡◌, ℕ, ◌<◌, ◌≤◌, Bool, List, Some, None}
use Rattle.pl_event.specs.declared.event.Event.{Event}
use Rattle.pl_event.specs.declared.log.Line.{Line}
use Rattle.pl_event.specs.declared.log.Record.TheVariants as entry
use Rattle.pl_event.specs.Candidates.{Shares}
use Rattle.pl_event.specs.Conflicts.{access_of}
use Rattle.pl_event.specs.Records.{IsEvent}
use Rattle.log_clocks.specs.declared.clock.Clock.{Clock}
use Rattle.log_clocks.specs.declared.lasts.LastAccesses.{LastAccesses}
use Rattle.log_clocks.specs.Clocks.{time}
use Rattle.log_clocks.specs.inner.Rows.{in_row, row_at, IsIndexed}

-- the number of the last load, or store, of hart u in a block, or 0
abbrev pub last : LastAccesses → ℕ → Bool → ℕ → ℕ
last lasts block store u = in_row (row_at lasts.index.items lasts.rows.items block) store u

-- record n of hart u is among the first i lines, and loads from the block, or stores to it
abbrev pub IsAccess : ℕ → List Line → ℕ → ℕ → ℕ → ℕ → Bool → Type 0
IsAccess size lines i u n block store =
    (j : ℕ) × (event : Event) × (j < i) × IsEvent lines j n event × (event.hart ≡ u)
    × (access_of size event.kind ≡ Some (record { block = block; store = store }))

-- the table has the last accesses of the first i lines
pub record HasLast (lasts : LastAccesses) (size : ℕ) (lines : List Line) (i : ℕ) : Type 0 where
  pub sized : lasts.size ≡ size
  pub told : (u block : ℕ) (store : Bool) → 1 ≤ last lasts block store u →
      IsAccess size lines i u (last lasts block store u) block store
  pub every : (u n block : ℕ) (store : Bool) → IsAccess size lines i u n block store → n ≤ last lasts block store u
  pub indexed : IsIndexed lasts.index.items lasts.rows.items

-- the clock knows each record of another hart that comes before the event, record m of its hart, and shares its block
abbrev pub KnowsShared : ℕ → List Line → Event → ℕ → Clock → Type 0
KnowsShared size lines event m clock = (u k : ℕ) → u < 8 → Shares size lines u k event.hart m → k ≤ time clock u

-- both have the same last accesses
pub record HasSameTable (old new : LastAccesses) : Type 0 where
  pub size : new.size ≡ old.size
  pub index : new.index.items ≡ old.index.items
  pub rows : new.rows.items ≡ old.rows.items

-- the line neither loads nor stores
abbrev pub IsNoAccess : ℕ → Line → Type 0
IsNoAccess size line = (event : Event) → line.what ≡ entry.Event event → access_of size event.kind ≡ None

-- The edges between the harts of a log.
use Rattle.std.specs.Prelude.{◌≡◌, ◌≢◌, ℕ, zero, suc, ◌+◌, ◌<◌, ◌≤◌, ◌⊎◌, List, Option, Some, None, replicate, slice_index_or}
use Rattle.pl_base.specs.declared.layout.TheConstants.{MAX_HARTS}
use Rattle.pl_event.specs.declared.log.Line.{Line}
use Rattle.pl_event.specs.declared.log.Record.{Record}
use Rattle.pl_event.specs.declared.log.Record.TheVariants as entry
use Rattle.pl_event.specs.Records.{records_before, IsRecord}

-- no record has to come before
abbrev pub no_arcs : List (Option ℕ)
no_arcs = replicate MAX_HARTS None

-- the number of a record, where 0 stands for none
abbrev pub some_number : ℕ → Option ℕ
some_number zero = None
some_number (suc n) = Some (suc n)

-- the source of a line's arc in hart u
abbrev pub arc_of : Line → ℕ → Option ℕ
arc_of line u = slice_index_or line.arcs u None

-- a notice in hart u of record m of hart h
abbrev pub notice_of : ℕ → ℕ → ℕ → Record
notice_of u h m = entry.Notice u (record { hart = h; number = m })

-- record m of hart h has an arc from record n of hart u
abbrev pub IsArc : List Line → ℕ → ℕ → ℕ → ℕ → Type 0
IsArc lines u n h m = (i : ℕ) × (line : Line) × IsRecord lines i h m line × (arc_of line u ≡ Some n)

-- record n of hart u is a notice of record m of hart h
abbrev pub IsNotice : List Line → ℕ → ℕ → ℕ → ℕ → Type 0
IsNotice lines u n h m = (i : ℕ) × (line : Line) × IsRecord lines i u n line × (line.what ≡ notice_of u h m)

-- record m of hart h follows a notice of record n of hart u
abbrev pub IsAfter : List Line → ℕ → ℕ → ℕ → ℕ → Type 0
IsAfter lines u n h m =
    (i : ℕ) × (line : Line) × (k : ℕ) × IsRecord lines i h m line × (k + 1 ≡ m) × IsNotice lines h k u n

-- from an arc's source to its record, from a notice to its event, and from that event to
-- the record that follows the notice
abbrev pub Into : List Line → ℕ → ℕ → ℕ → ℕ → Type 0
Into lines u n h m = IsArc lines u n h m ⊎ (IsNotice lines u n h m ⊎ IsAfter lines u n h m)

-- what arcs and notices keep in a well-formed log: they are of its harts, an arc's source is an earlier record of
-- another hart, a notice is of a later record of another hart, and its own hart has no record until that one has come
pub record IsFlow (harts : ℕ) (lines : List Line) : Type 0 where
  pub within : (i h m : ℕ) (line : Line) → IsRecord lines i h m line → h < harts
  pub arcs : (i h m : ℕ) (line : Line) → IsRecord lines i h m line → (u n : ℕ) → arc_of line u ≡ Some n →
      (u < harts) × (u ≢ h) × (1 ≤ n) × (n ≤ records_before u lines i)
  pub notices : (i h m : ℕ) (line : Line) → IsRecord lines i h m line → (u n : ℕ) → line.what ≡ notice_of h u n →
      (u < harts) × (u ≢ h) × (records_before u lines i < n)
  pub closed : (i h m : ℕ) (line : Line) → IsRecord lines i h (m + 1) line → (u n : ℕ) → IsNotice lines h m u n →
      n ≤ records_before u lines i

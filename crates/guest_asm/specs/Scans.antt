-- What the first pass keeps of the lines that it has read.
use Rattle.std.specs.Prelude.{◌≡◌, ℕ, ◌≤◌, List, map, All}
use Rattle.std.specs.Borrow.{Bor}
use Rattle.indexmap.specs.IndexMap.{IndexMap}
use Rattle.guest_asm.specs.declared.scan.Row.{Row}
use Rattle.guest_asm.specs.declared.scan.Scan.{Scan}
use Rattle.guest_asm.specs.Lines.{Meaning}
use Rattle.guest_asm.specs.Statements.{IsValidStatement}
use Rattle.guest_asm.specs.Rules.{labels_of, place_of}
use Rattle.guest_asm.specs.Jobs.{placed, rows_of}
use Rattle.pl_base.specs.declared.layout.TheConstants.{MAX_TEXT_WORDS, MAX_DATA_BYTES}

-- labels with their addresses, in the order of their definition
abbrev pub defined : {S : Type 0} → IndexMap (Bor (List ℕ)) ℕ S → List (List ℕ × ℕ)
defined m = map (λ e. (e.0.now, e.1)) m.entries

abbrev pub IsValidRow : Row → Type 0
IsValidRow r = IsValidStatement r.statement

-- what is kept of these lines
pub record Keeps (before : List Meaning) (scan : Scan) : Type 0 where
  pub rows : map placed scan.rows.items ≡ rows_of before
  pub place : scan.place ≡ place_of before
  pub labels : defined scan.labels ≡ labels_of before
  pub words : scan.place.words ≤ MAX_TEXT_WORDS
  pub bytes : scan.place.bytes ≤ MAX_DATA_BYTES
  pub valid : All IsValidRow scan.rows.items

-- What a text begins with, when it is read from the start.
use Rattle.std.specs.Prelude.{◌≡◌, ℕ, ◌≤◌, Bool, List, ◌∷◌, ◌++◌}
use Rattle.pl_event.specs.declared.log.Point.{Point}
use Rattle.pl_event.specs.declared.log.Record.{Record}
use Rattle.pl_event.specs.declared.log.PageRun.{PageRun}
use Rattle.log_grammar.specs.declared.points.ArcList.{ArcList}
use Rattle.log_grammar.specs.Arcs.{ShowsPoints}
use Rattle.log_grammar.specs.Spelling.{Entry, page, row, arc_words, header_text, line_text, entry_text}
use Rattle.log_grammar.specs.Form.{IsInForm, ArePointsInForm, MayHave, most_read}
use Rattle.log_grammar.specs.Reads.{behind_blanks}
use Rattle.pl_event.specs.Runs.{IsBlockSize}

-- the bytes begin with this well-formed line and its line feed, and with no other
pub record Begins (bytes : List ℕ) (e : Entry) (rest : List ℕ) : Type 0 where
  pub in_form : IsInForm most_read e
  pub spelled : bytes ≡ line_text (entry_text e) ++ rest
  pub only : (other : Entry) (after : List ℕ) → IsInForm most_read other →
      bytes ≡ line_text (entry_text other) ++ after → (other ≡ e) × (after ≡ rest)

-- it is a record with the arcs of the list, if it has some
pub record BeginsWithRow (bytes : List ℕ) (what : Record) (has_arcs : Bool) (list : ArcList) (rest : List ℕ) :
    Type 0 where
  pub points : List Point
  pub shows : ShowsPoints has_arcs list points
  pub begins : Begins bytes (row what points) rest

abbrev pub BeginsWithNoRow : List ℕ → Type 0
BeginsWithNoRow bytes = (what : Record) (points : List Point) (after : List ℕ) → IsInForm most_read (row what points) →
    bytes ≡ line_text (entry_text (row what points)) ++ after → ⊥

abbrev pub BeginsWithNoPage : List ℕ → Type 0
BeginsWithNoPage bytes = (run : PageRun) (after : List ℕ) → IsInForm most_read (page run) →
    bytes ≡ line_text (entry_text (page run)) ++ after → ⊥

-- the bytes are the well-formed arcs of the list, which the record may have, if there are
-- some, and a line feed, and no others
pub record EndsWithArcs (what : Record) (bytes : List ℕ) (has_arcs : Bool) (list : ArcList) (rest : List ℕ) :
    Type 0 where
  pub points : List Point
  pub in_form : ArePointsInForm most_read points
  pub may_have : MayHave what points
  pub shows : ShowsPoints has_arcs list points
  pub spelled : bytes ≡ behind_blanks (arc_words points) (10 ∷ rest)
  pub only : (others : List Point) (after : List ℕ) → ArePointsInForm most_read others → MayHave what others →
      bytes ≡ behind_blanks (arc_words others) (10 ∷ after) → (others ≡ points) × (after ≡ rest)

abbrev pub EndsWithNone : Record → List ℕ → Type 0
EndsWithNone what bytes = (points : List Point) (after : List ℕ) → ArePointsInForm most_read points →
    MayHave what points → bytes ≡ behind_blanks (arc_words points) (10 ∷ after) → ⊥

-- the bytes begin with the header of so many harts and that size of blocks and its line feed, and with no other
pub record BeginsWithHeader (bytes : List ℕ) (harts block : ℕ) (rest : List ℕ) : Type 0 where
  pub some : 1 ≤ harts
  pub few : harts ≤ 8
  pub size : IsBlockSize block
  pub spelled : bytes ≡ line_text (header_text harts block) ++ rest
  pub only : (other other_block : ℕ) (after : List ℕ) → 1 ≤ other → other ≤ 8 → IsBlockSize other_block →
      bytes ≡ line_text (header_text other other_block) ++ after →
      (other ≡ harts) × (other_block ≡ block) × (after ≡ rest)

abbrev pub BeginsWithNoHeader : List ℕ → Type 0
BeginsWithNoHeader bytes = (harts block : ℕ) (rest : List ℕ) → 1 ≤ harts → harts ≤ 8 → IsBlockSize block →
    bytes ≡ line_text (header_text harts block) ++ rest → ⊥

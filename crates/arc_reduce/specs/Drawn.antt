-- The log with all candidates, and what a recorder keeps of them.
use Rattle.std.specs.Prelude.{◌≡◌, ℕ, List, All, length}
use Rattle.pl_base.specs.declared.layout.TheConstants.{MAX_HARTS}
use Rattle.pl_event.specs.declared.log.Line.{Line}
use Rattle.pl_event.specs.Candidates.{Shares}
use Rattle.pl_event.specs.Edges.{arc_of, IsNotice}
use Rattle.pl_event.specs.Needs.{IsMost}
use Rattle.pl_event.specs.Records.{IsRecord}
use Rattle.pl_event.specs.Runs.{IsAlert}

-- the arcs of each record are from its candidates: of each hart the last record before it that shares its block
abbrev pub IsDrawn : ℕ → List Line → Type 0
IsDrawn size full = (i h m : ℕ) (line : Line) → IsRecord full i h m line →
    (u : ℕ) → IsMost (λ k. Shares size full u k h m) (arc_of line u)

-- what a notice names comes, and is an alert event
abbrev pub NameAlerts : List Line → Type 0
NameAlerts lines = (h k u n : ℕ) → IsNotice lines h k u n → IsAlert lines u n

-- each line has a place for an arc from each of eight harts
abbrev pub HaveEight : List Line → Type 0
HaveEight lines = All (λ line. length line.arcs ≡ MAX_HARTS) lines

-- The arcs that a recorder may draw, and which of them say nothing new.
use Rattle.std.specs.Prelude.{◌≡◌, ℕ, ◌⊎◌, List, Some}
use Rattle.pl_event.specs.declared.event.Event.{Event}
use Rattle.pl_event.specs.declared.log.Line.{Line}
use Rattle.pl_event.specs.Conflicts.{access_of, ShareBlock, IsPair}
use Rattle.pl_event.specs.Edges.{IsNotice, IsAfter}
use Rattle.pl_event.specs.Graph.{IsImplied}
use Rattle.pl_event.specs.Needs.{IsMost}

-- record n of hart u comes before record m of hart h, another one, and they access one block, which one of them writes
pub record Shares (size : ℕ) (lines : List Line) (u n h m : ℕ) : Type 0 where
  pub i : ℕ
  pub j : ℕ
  pub a : Event
  pub b : Event
  pub pair : IsPair lines i j a n b m
  pub first : a.hart ≡ u
  pub second : b.hart ≡ h
  pub block : ShareBlock (access_of size a.kind) (access_of size b.kind)

-- record n is the last of hart u that comes before record m of hart h and shares its block
abbrev pub IsCandidate : ℕ → List Line → ℕ → ℕ → ℕ → ℕ → Type 0
IsCandidate size lines u n h m = IsMost (λ k. Shares size lines u k h m) (Some n)

-- the edges of the log in which each record has an arc from each of its candidates
abbrev pub IntoAll : ℕ → List Line → ℕ → ℕ → ℕ → ℕ → Type 0
IntoAll size lines u n h m = IsCandidate size lines u n h m ⊎ (IsNotice lines u n h m ⊎ IsAfter lines u n h m)

-- there the source of the arc reaches its record by a path that does not use the arc
abbrev pub IsImpliedArc : ℕ → List Line → ℕ → ℕ → ℕ → ℕ → Type 0
IsImpliedArc size lines u n h m = IsImplied (IntoAll size lines) u n h m

-- Which arcs of a log say nothing new, and the log without them.
use Rattle.std.specs.Prelude.{◌≡◌, ℕ, ◌⊎◌, List, map, Option, Some, None, MatchOption, slice_index_or}
use Rattle.pl_event.specs.declared.log.Line.{Line}
use Rattle.pl_event.specs.declared.log.Record.{Record}
use Rattle.pl_event.specs.Edges.{IsArc, IsNotice, IsAfter}
use Rattle.pl_event.specs.Graph.{Path, Without}

-- the edges of a log without one arc: an edge by a notice between the same records stays
abbrev pub IntoBut : List Line → ℕ → ℕ → ℕ → ℕ → ℕ → ℕ → ℕ → ℕ → Type 0
IntoBut lines u n h m v k w l =
    Without (IsArc lines) u n h m v k w l ⊎ (IsNotice lines v k w l ⊎ IsAfter lines v k w l)

-- the source of the arc from u:n to h:m reaches its record by a path that does not use the arc
abbrev pub IsSpare : List Line → ℕ → ℕ → ℕ → ℕ → Type 0
IsSpare lines u n h m = Path (IntoBut lines u n h m) u n h m

abbrev pub records_in : List Line → List Record
records_in lines = map (λ line. line.what) lines

-- the lines have the records of the full ones in their order, and of their arcs exactly those that are not spare
pub record IsReduced (lines full : List Line) : Type 0 where
  pub records : records_in lines ≡ records_in full
  pub only : (u n h m : ℕ) → IsArc lines u n h m → IsArc full u n h m
  pub arcs : (u n h m : ℕ) → IsArc full u n h m →
      (IsArc lines u n h m × (IsSpare full u n h m → ⊥))
      ⊎ ((IsArc lines u n h m → ⊥) × IsSpare full u n h m)

-- a candidate from hart u is kept, where it is not spare in the full log
abbrev pub IsChosen : List Line → ℕ → ℕ → ℕ → Option ℕ → Option ℕ → Type 0
IsChosen full u h m candidate kept = MatchOption candidate (kept ≡ None)
    (λ n. ((kept ≡ Some n) × (IsSpare full u n h m → ⊥)) ⊎ ((kept ≡ None) × IsSpare full u n h m))

-- of the candidates of record m of hart h exactly those are kept that are not spare in the full log
abbrev pub AreChosen : List Line → ℕ → ℕ → List (Option ℕ) → List (Option ℕ) → Type 0
AreChosen full h m candidates kept =
    (u : ℕ) → IsChosen full u h m (slice_index_or candidates u None) (slice_index_or kept u None)

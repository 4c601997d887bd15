-- The first pair of a log that is not ordered.
use Rattle.std.specs.Prelude.{ℕ, ◌<◌, ◌⊎◌, List}
use Rattle.pl_event.specs.declared.event.Event.{Event}
use Rattle.pl_event.specs.declared.log.Line.{Line}
use Rattle.pl_event.specs.declared.log.Log.{Log}
use Rattle.pl_event.specs.Conflicts.{access_of, ShareBlock, MeetByAlert, IsPair, IsNoticed, AreOrdered}
use Rattle.pl_event.specs.Edges.{Into}
use Rattle.pl_event.specs.Graph.{Path}

-- the events conflict by a block and have no path, or by an alert and have no notice
abbrev pub IsUnordered : ℕ → List Line → Event → ℕ → Event → ℕ → Type 0
IsUnordered size lines a n b m =
    (ShareBlock (access_of size a.kind) (access_of size b.kind) × (Path (Into lines) a.hart n b.hart m → ⊥))
    ⊎ (MeetByAlert a.kind b.kind × (IsNoticed lines a n b m → ⊥))

-- the events are ordered if they conflict
pub record IsOrderedPair (size : ℕ) (lines : List Line) (a : Event) (n : ℕ) (b : Event) (m : ℕ) : Type 0 where
  pub accesses : ShareBlock (access_of size a.kind) (access_of size b.kind) → Path (Into lines) a.hart n b.hart m
  pub alerts : MeetByAlert a.kind b.kind → IsNoticed lines a n b m

-- the events at positions i and j are the first pair that is not ordered: the later one is the first event of the log
-- that is not ordered after some earlier conflicting event, and the earlier one is the earliest of these
pub record IsFirstUnordered (log : Log) (i j : ℕ) (a : Event) (n : ℕ) (b : Event) (m : ℕ) : Type 0 where
  pub pair : IsPair log.lines i j a n b m
  pub unordered : IsUnordered log.block log.lines a n b m
  pub later : AreOrdered log.block log.lines j
  pub earlier : (k : ℕ) (c : Event) (p : ℕ) → k < i → IsPair log.lines k j c p b m →
      IsOrderedPair log.block log.lines c p b m

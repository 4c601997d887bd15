-- Which events conflict, and which logs are ordered.
use Rattle.std.specs.Prelude.{◌≡◌, ◌≢◌, ℕ, ◌/◌, ◌<◌, ◌⊎◌, Bool, true, false, IsTrue, List, length, Option, Some, None}
use Rattle.std.specs.Bool.{MatchBool}
use Rattle.pl_event.specs.declared.event.Event.{Event}
use Rattle.pl_event.specs.declared.event.Kind.{Kind}
use Rattle.pl_event.specs.declared.event.Kind.TheVariants.{Ld, St, Op, Mv, Im, Br, Jr, Al, Fr, Bf, Mp, Um, Rd, Wr, Ex, Ft}
use Rattle.pl_event.specs.declared.log.Line.{Line}
use Rattle.pl_event.specs.declared.log.Log.{Log}
use Rattle.pl_event.specs.Alerts.{is_alert_kind}
use Rattle.pl_event.specs.Graph.{Path}
use Rattle.pl_event.specs.Records.{IsEvent}
use Rattle.pl_event.specs.Edges.{IsNotice, Into}

-- a block of memory, and whether it is written
pub record Access : Type 0 where
  pub block : ℕ
  pub store : Bool

-- what a load or a store touches, where a block has so many bytes: one block, since an access is aligned
abbrev pub access_of : ℕ → Kind → Option Access
access_of size (Ld width rd rb addr) = Some (record { block = addr / size; store = false })
access_of size (St width rv rb addr) = Some (record { block = addr / size; store = true })
access_of size (Op rd r1 r2) = None
access_of size (Mv rd rs) = None
access_of size (Im rd) = None
access_of size (Br r1 r2) = None
access_of size (Jr rd rs) = None
access_of size (Al addr len) = None
access_of size (Fr addr len) = None
access_of size (Bf addr) = None
access_of size (Mp page count) = None
access_of size (Um page count) = None
access_of size (Rd addr len) = None
access_of size (Wr addr len) = None
access_of size Ex = None
access_of size (Ft cause addr) = None

-- both are accesses to one block, and one is a store
abbrev pub ShareBlock : Option Access → Option Access → Type 0
ShareBlock None b = ⊥
ShareBlock (Some a) None = ⊥
ShareBlock (Some a) (Some b) = (a.block ≡ b.block) × ((a.store ≡ true) ⊎ (b.store ≡ true))

-- a load or a store
abbrev pub is_access : Kind → Bool
is_access (Ld width rd rb addr) = true
is_access (St width rv rb addr) = true
is_access _ = false

-- a load, a store or an alert event
abbrev pub IsConcerned : Kind → Type 0
IsConcerned kind = IsTrue (is_access kind) ⊎ IsTrue (is_alert_kind kind)

-- one is an alert event, and the other concerns it
abbrev pub MeetByAlert : Kind → Kind → Type 0
MeetByAlert k l = (IsTrue (is_alert_kind k) × IsConcerned l) ⊎ (IsConcerned k × IsTrue (is_alert_kind l))

-- the events at positions i and j, records n and m of different harts
pub record IsPair (lines : List Line) (i j : ℕ) (a : Event) (n : ℕ) (b : Event) (m : ℕ) : Type 0 where
  pub before : i < j
  pub first : IsEvent lines i n a
  pub second : IsEvent lines j m b
  pub apart : a.hart ≢ b.hart

-- hart h has a notice of record n of hart u
abbrev pub HasNotice : List Line → ℕ → ℕ → ℕ → Type 0
HasNotice lines h u n = (k : ℕ) × IsNotice lines h k u n

-- the hart of the event that is no alert has the alert's notice; of two alerts the later
-- one's hart has the earlier one's
abbrev pub IsNoticed : List Line → Event → ℕ → Event → ℕ → Type 0
IsNoticed lines a n b m =
    MatchBool (is_alert_kind a.kind) (HasNotice lines b.hart a.hart n) (HasNotice lines a.hart b.hart m)

-- each two conflicting events are ordered, where the later one's position is below `upto`
pub record AreOrdered (size : ℕ) (lines : List Line) (upto : ℕ) : Type 0 where
  pub accesses : (i j : ℕ) (a : Event) (n : ℕ) (b : Event) (m : ℕ) → j < upto → IsPair lines i j a n b m →
      ShareBlock (access_of size a.kind) (access_of size b.kind) → Path (Into lines) a.hart n b.hart m
  pub alerts : (i j : ℕ) (a : Event) (n : ℕ) (b : Event) (m : ℕ) → j < upto → IsPair lines i j a n b m →
      MeetByAlert a.kind b.kind → IsNoticed lines a n b m

-- each two conflicting events are ordered
abbrev pub IsOrdered : Log → Type 0
IsOrdered log = AreOrdered log.block log.lines (length log.lines)
